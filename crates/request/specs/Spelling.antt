-- How requests are spelled.
use Rattle.std.specs.Prelude.{◌≡◌, ℕ, ◌+◌, ◌-◌, ◌*◌, ◌≤◌, true, List, [], ◌∷◌, ◌++◌, ◌≢◌}
use Rattle.request.specs.declared.Request.{Request}
use Rattle.request.specs.declared.Request.TheVariants as R
use Rattle.request.specs.Steps.{digit}

-- A request with its numbers as digits, any of them absent.
pub data Spelled : Type 0 where
  Push : List ℕ → Spelled
  Pop : List ℕ → Spelled
  Set : List ℕ → Spelled
  SetMode : List ℕ → List ℕ → Spelled
  Query : Spelled

-- ESC [ > f u, ESC [ < n u, ESC [ = f u, ESC [ = f ; mode u, ESC [ ? u
abbrev pub spell : Spelled → List ℕ
spell (Push f) = 27 ∷ 91 ∷ 62 ∷ (f ++ 117 ∷ [])
spell (Pop n) = 27 ∷ 91 ∷ 60 ∷ (n ++ 117 ∷ [])
spell (Set f) = 27 ∷ 91 ∷ 61 ∷ (f ++ 117 ∷ [])
spell (SetMode f mode) = 27 ∷ 91 ∷ 61 ∷ (f ++ 59 ∷ (mode ++ 117 ∷ []))
spell Query = 27 ∷ 91 ∷ 63 ∷ 117 ∷ []

abbrev pub amount : ℕ → List ℕ → ℕ
amount n [] = n
amount n (d ∷ ds) = amount (n * 10 + (d - 48)) ds

abbrev pub Digits : List ℕ → Type 0
Digits [] = Unit {0}
Digits (d ∷ ds) = (digit d ≡ true) × Digits ds

-- Digits, none or some, of a number up to 65535.
abbrev pub Number : List ℕ → Type 0
Number ds = Digits ds × (amount 0 ds ≤ 65535)

abbrev pub Proper : Spelled → Type 0
Proper (Push f) = Number f
Proper (Pop n) = Number n
Proper (Set f) = Number f
Proper (SetMode f mode) = Number f × Number mode
Proper Query = Unit {0}

-- a number, or this where it is absent
abbrev pub or_else : ℕ → List ℕ → ℕ
or_else n [] = n
or_else n (d ∷ ds) = amount 0 (d ∷ ds)

abbrev pub asks : Spelled → Request
asks (Push f) = R.Push (or_else 0 f)
asks (Pop n) = R.Pop (or_else 1 n)
asks (Set f) = R.Set (or_else 0 f) 1
asks (SetMode f mode) = R.Set (or_else 0 f) (or_else 1 mode)
asks Query = R.Query

-- The bytes are a request.
pub record Whole (bs : List ℕ) (q : Request) : Type 0 where
  pub spelled : Spelled
  pub proper : Proper spelled
  pub bytes : bs ≡ spell spelled
  pub asks_it : q ≡ asks spelled

-- The bytes begin a request, and more of it is to come.
pub record Begins (bs : List ℕ) : Type 0 where
  pub spelled : Spelled
  pub proper : Proper spelled
  pub byte : ℕ
  pub rest : List ℕ
  pub bytes : bs ++ byte ∷ rest ≡ spell spelled

-- No request begins so.
abbrev pub Misfits : List ℕ → Type 0
Misfits bs = (s : Spelled) → Proper s → (rest : List ℕ) → bs ++ rest ≢ spell s
