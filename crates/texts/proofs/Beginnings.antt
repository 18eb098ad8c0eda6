-- What follows a beginning, where the text begins so, and where it does not.
use Rattle.std.proofs.Common.{◌≡◌, ℕ, ◌+◌, eqb, List, [], ◌∷◌, ◌++◌, length, drop, Some, None, Option, sym, refl, ap, ◌∙◌, ⊎_elim, Bor, MatchOption}
use Rattle.std.specs.Str.Pattern.{FindsTextPrefix}
use Rattle.std.specs.Option.{option_map}
use Rattle.std.proofs.lemmas.Bool.{cases_Bool, eq-eqb, eqb-true}
use Rattle.texts.specs.Texts.{follows}

pub begun : (p rest : List ℕ) → follows p (p ++ rest) ≡ Some rest
begun [] rest = refl
begun (b ∷ p) rest = rw (eq-eqb b b refl) (begun p rest)

pub not_begun : (p s : List ℕ) → ((rest : List ℕ) → s ≡ p ++ rest → ⊥) → follows p s ≡ None
not_begun [] s h = absurd (h s refl)
not_begun (b ∷ p) [] h = refl
not_begun (b ∷ p) (x ∷ xs) h =
    ⊎_elim
    (λ t. let q : (rest : List ℕ) → xs ≡ p ++ rest → ⊥ = λ rest e. h rest (ap (λ (n : ℕ). n ∷ xs) (sym (eqb-true b x t)) ∙ ap (λ (ys : List ℕ). b ∷ ys) e) in rw t (not_begun p xs q))
    (λ f. rw f refl)
    (cases_Bool (eqb b x))

-- the clause of `strip_prefix` at a text
pub stripped : (p s : List ℕ) (r : Option (Bor (List ℕ))) → MatchOption r (FindsTextPrefix p s None) (λ x. (n : ℕ) × FindsTextPrefix p s (Some n) × (x.now ≡ drop n s) × (length x.now + n ≡ length s)) → option_map (λ x. x.now) r ≡ follows p s
stripped p s None h = sym (not_begun p s h)
stripped p s (Some x) h = ap Some h.2 ∙ sym (begun p (drop h.0 s)) ∙ ap (follows p) (sym h.1.1)
