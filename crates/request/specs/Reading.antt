-- Which requests a string of bytes holds.
use Rattle.std.specs.Prelude.{◌≡◌, ℕ, cond, List, [], ◌∷◌, ◌++◌, Some, None, Ok, Err, Option, ◌==◌}
use Rattle.std.specs.Option.{unwrap_or}
use Rattle.request.specs.declared.Request.{Request}
use Rattle.request.specs.declared.State.{State}
use Rattle.request.specs.declared.State.TheVariants as S
use Rattle.request.specs.Steps.{Answer}
use Rattle.request.specs.Spelling.{Number, or_else, Whole, Begins, Misfits}

-- What ended: a request, or a misfit.
pub data Ended : Type 0 where
  Asked : Request → Ended
  Spoiled : Ended

abbrev pub ended : Answer → List Ended
ended (Ok None) = []
ended (Ok (Some q)) = Asked q ∷ []
ended (Err f) = Spoiled ∷ []

-- what is left of a misfit: ESC begins anew
abbrev pub anew : ℕ → List ℕ
anew b = cond (b == 27) (27 ∷ []) []

-- One byte after the bytes p of a request begun.
pub data Turn (p : List ℕ) (b : ℕ) : Type 0 where
  Goes : Begins (p ++ b ∷ []) → Turn p b
  Ends : (q : Request) → Whole (p ++ b ∷ []) q → Turn p b
  Breaks : Misfits (p ++ b ∷ []) → Turn p b

abbrev pub left : {p : List ℕ} {b : ℕ} → Turn p b → List ℕ
left {p} {b} (Goes g) = p ++ b ∷ []
left (Ends q w) = []
left {p} {b} (Breaks m) = anew b

abbrev pub says : {p : List ℕ} {b : ℕ} → Turn p b → List Ended
says (Goes g) = []
says (Ends q w) = Asked q ∷ []
says (Breaks m) = Spoiled ∷ []

-- From the bytes p of a request begun, the bytes bs end these and leave the bytes q of a request begun.
abbrev pub Reads : List ℕ → List ℕ → List Ended → List ℕ → Type 0
Reads p [] es q = (es ≡ []) × (q ≡ p)
Reads p (b ∷ bs) es q = (t : Turn p b) × (more : List Ended) × (es ≡ says t ++ more) × Reads (left t) bs more q

-- Every string ends the same, however it is read.
abbrev pub OneWay : Type 0
OneWay = (bs q r : List ℕ) (es ds : List Ended) → Reads [] bs es q → Reads [] bs ds r → (es ≡ ds) × (q ≡ r)

-- The number that digits give so far.
abbrev pub Gives : List ℕ → Option ℕ → Type 0
Gives ds n = Number ds × ((k : ℕ) → unwrap_or n k ≡ or_else k ds)

-- The bytes of the request begun, as the state has them.
abbrev pub Pending : State → List ℕ → Type 0
Pending S.Start p = p ≡ []
Pending S.Escape p = p ≡ 27 ∷ []
Pending S.Bracket p = p ≡ 27 ∷ 91 ∷ []
Pending S.Query p = p ≡ 27 ∷ 91 ∷ 63 ∷ []
Pending (S.Push n) p = (f : List ℕ) × Gives f n × (p ≡ 27 ∷ 91 ∷ 62 ∷ f)
Pending (S.Pop n) p = (f : List ℕ) × Gives f n × (p ≡ 27 ∷ 91 ∷ 60 ∷ f)
Pending (S.Set n) p = (f : List ℕ) × Gives f n × (p ≡ 27 ∷ 91 ∷ 61 ∷ f)
Pending (S.Mode flags n) p = (f : List ℕ) × (m : List ℕ) × Number f × (flags ≡ or_else 0 f) × Gives m n × (p ≡ 27 ∷ 91 ∷ 61 ∷ f ++ 59 ∷ m)

-- After these bytes, what ended, and what is begun.
pub record Hears (s : State) (bs : List ℕ) (es : List Ended) : Type 0 where
  pub begun : List ℕ
  pub reads : Reads [] bs es begun
  pub pending : Pending s begun
