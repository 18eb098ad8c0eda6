-- Where a byte goes on with no request.
use Rattle.std.proofs.Common.{◌≡◌, ℕ, ◌+◌, ◌-◌, ◌*◌, false, ◌&&◌, leb, ◌⊎◌, List, [], ◌∷◌, ◌++◌, Option, unwrap_or, sym, refl, ap, ◌∙◌, inl, inr, true≢false, arith}
use Rattle.std.proofs.lemmas.List.{append_assoc}
use Rattle.request.specs.Steps.{digit}
use Rattle.request.specs.Spelling.{Spelled, Push, Pop, Set, SetMode, Query, spell, Number, Misfits}
use Rattle.request.specs.Reading.{Gives}
use Rattle.request.proofs.Digits.{head, tail, split, stuck}

abbrev pub kind : Spelled → ℕ
kind (Push f) = 62
kind (Pop n) = 60
kind (Set f) = 61
kind (SetMode f m) = 61
kind Query = 63

abbrev pub second : List ℕ → ℕ
second l = head (tail l)

abbrev pub third : List ℕ → ℕ
third l = head (tail (tail l))

pub first_is : (s : Spelled) → head (spell s) ≡ 27
first_is (Push f) = refl
first_is (Pop n) = refl
first_is (Set f) = refl
first_is (SetMode f m) = refl
first_is Query = refl

pub second_is : (s : Spelled) → second (spell s) ≡ 91
second_is (Push f) = refl
second_is (Pop n) = refl
second_is (Set f) = refl
second_is (SetMode f m) = refl
second_is Query = refl

pub third_is : (s : Spelled) → third (spell s) ≡ kind s
third_is (Push f) = refl
third_is (Pop n) = refl
third_is (Set f) = refl
third_is (SetMode f m) = refl
third_is Query = refl

pub kinds : (s : Spelled) → (kind s ≡ 62) ⊎ ((kind s ≡ 60) ⊎ ((kind s ≡ 61) ⊎ (kind s ≡ 63)))
kinds (Push f) = inl refl
kinds (Pop n) = inr (inl refl)
kinds (Set f) = inr (inr (inl refl))
kinds (SetMode f m) = inr (inr (inl refl))
kinds Query = inr (inr (inr refl))

abbrev pub after_kind : List ℕ → List ℕ
after_kind l = tail (tail (tail l))

pub query_only : (b : ℕ) → (b ≡ 117 → ⊥) → Misfits (27 ∷ 91 ∷ 63 ∷ b ∷ [])
query_only b ne (Push f) k rest e = omega (arith, ap third e)
query_only b ne (Pop n) k rest e = omega (arith, ap third e)
query_only b ne (Set f) k rest e = omega (arith, ap third e)
query_only b ne (SetMode f m) k rest e = omega (arith, ap third e)
query_only b ne Query k rest e = ne (ap (λ l. head (after_kind l)) e)

module _ (f : List ℕ) (n : Option ℕ) (b : ℕ) (g : Gives f n) (e : digit b && leb (unwrap_or n 0 * 10 + (b - 48)) 65535 ≡ false) (ne : b ≡ 117 → ⊥) where
  joins : (rest : List ℕ) → (f ++ b ∷ []) ++ rest ≡ f ++ b ∷ rest
  joins rest = append_assoc f (b ∷ []) rest

  pub push_only : Misfits (27 ∷ 91 ∷ 62 ∷ f ++ b ∷ [])
  push_only (Push h) k rest is = ne (stuck f n b g e h k 117 rest [] refl (sym (joins rest) ∙ ap after_kind is))
  push_only (Pop h) k rest is = omega (arith, ap third is)
  push_only (Set h) k rest is = omega (arith, ap third is)
  push_only (SetMode h m) k rest is = omega (arith, ap third is)
  push_only Query k rest is = omega (arith, ap third is)

  pub pop_only : Misfits (27 ∷ 91 ∷ 60 ∷ f ++ b ∷ [])
  pop_only (Push h) k rest is = omega (arith, ap third is)
  pop_only (Pop h) k rest is = ne (stuck f n b g e h k 117 rest [] refl (sym (joins rest) ∙ ap after_kind is))
  pop_only (Set h) k rest is = omega (arith, ap third is)
  pop_only (SetMode h m) k rest is = omega (arith, ap third is)
  pop_only Query k rest is = omega (arith, ap third is)

  pub set_only : (b ≡ 59 → ⊥) → Misfits (27 ∷ 91 ∷ 61 ∷ f ++ b ∷ [])
  set_only nm (Push h) k rest is = omega (arith, ap third is)
  set_only nm (Pop h) k rest is = omega (arith, ap third is)
  set_only nm (Set h) k rest is = ne (stuck f n b g e h k 117 rest [] refl (sym (joins rest) ∙ ap after_kind is))
  set_only nm (SetMode h m) k rest is = nm (stuck f n b g e h k.0 59 rest (m ++ 117 ∷ []) refl (sym (joins rest) ∙ ap after_kind is))
  set_only nm Query k rest is = omega (arith, ap third is)

pub mode_only : (f m : List ℕ) (n : Option ℕ) (b : ℕ) → Number f → Gives m n → digit b && leb (unwrap_or n 0 * 10 + (b - 48)) 65535 ≡ false → (b ≡ 117 → ⊥) → Misfits (27 ∷ 91 ∷ 61 ∷ (f ++ 59 ∷ m) ++ b ∷ [])
mode_only f m n b num g e ne (Push h) k rest is = omega (arith, ap third is)
mode_only f m n b num g e ne (Pop h) k rest is = omega (arith, ap third is)
mode_only f m n b num g e ne (Set h) k rest is =
    let u : f ++ 59 ∷ ((m ++ b ∷ []) ++ rest) ≡ h ++ 117 ∷ [] = sym (ap (λ l. l ++ rest) (append_assoc f (59 ∷ m) (b ∷ [])) ∙ append_assoc f (59 ∷ m ++ b ∷ []) rest) ∙ ap after_kind is in
    elim (split 0 59 117 ((m ++ b ∷ []) ++ rest) [] f h num.0 k.0 refl u) [
      | inl p ↦ omega (arith, p.1)
      | inr p ↦ absurd (true≢false (sym p.0))
    ]
mode_only f m n b num g e ne (SetMode h w) k rest is =
    let u : f ++ 59 ∷ ((m ++ b ∷ []) ++ rest) ≡ h ++ 59 ∷ (w ++ 117 ∷ []) = sym (ap (λ l. l ++ rest) (append_assoc f (59 ∷ m) (b ∷ [])) ∙ append_assoc f (59 ∷ m ++ b ∷ []) rest) ∙ ap after_kind is in
    elim (split 0 59 59 ((m ++ b ∷ []) ++ rest) (w ++ 117 ∷ []) f h num.0 k.0.0 refl u) [
      | inl p ↦ ne (stuck m n b g e w k.1 117 rest [] refl (sym (append_assoc m (b ∷ []) rest) ∙ p.2))
      | inr p ↦ absurd (true≢false (sym p.0))
    ]
mode_only f m n b num g e ne Query k rest is = omega (arith, ap third is)
