-- Digits of a number, up to the byte after them.
use Rattle.std.proofs.Common.{◌≡◌, ℕ, ◌+◌, ◌-◌, ◌*◌, ◌≤◌, true, false, ◌&&◌, leb, ◌⊎◌, List, [], ◌∷◌, ◌++◌, Some, Option, unwrap_or, sym, refl, ap, ◌∙◌, subst, inl, inr, true≢false, arith}
use Rattle.std.proofs.lemmas.Bool.{le-leb, and_from, and_parts, leb-true}
use Rattle.request.specs.Steps.{digit}
use Rattle.request.specs.Spelling.{Digits, Number, amount, or_else}
use Rattle.request.specs.Reading.{Gives}

abbrev pub head : List ℕ → ℕ
head [] = 0
head (x ∷ xs) = x

abbrev pub tail : List ℕ → List ℕ
tail [] = []
tail (x ∷ xs) = xs

grows : (n : ℕ) (ds : List ℕ) → n ≤ amount n ds
grows n [] = omega arith
grows n (d ∷ ds) = let r = grows (n * 10 + (d - 48)) ds in omega arith

pub amount_push : (a : ℕ) (ds : List ℕ) (b : ℕ) → amount a (ds ++ b ∷ []) ≡ amount a ds * 10 + (b - 48)
amount_push a [] b = refl
amount_push a (d ∷ ds) b = amount_push (a * 10 + (d - 48)) ds b

pub digits_push : (ds : List ℕ) (b : ℕ) → Digits ds → digit b ≡ true → Digits (ds ++ b ∷ [])
digits_push [] b h e = (e, tt)
digits_push (d ∷ ds) b h e = (h.0, digits_push ds b h.1 e)

pub or_else_push : (k : ℕ) (ds : List ℕ) (b : ℕ) → or_else k (ds ++ b ∷ []) ≡ amount 0 (ds ++ b ∷ [])
or_else_push k [] b = refl
or_else_push k (d ∷ ds) b = refl

or_else_zero : (ds : List ℕ) → or_else 0 ds ≡ amount 0 ds
or_else_zero [] = refl
or_else_zero (d ∷ ds) = refl

-- two numbers before the bytes b and c: both end there, or the second goes on with the digit b
pub split : (a b c : ℕ) (rest after f g : List ℕ) → Digits f → Digits g → digit c ≡ false → f ++ b ∷ rest ≡ g ++ c ∷ after → ((f ≡ g) × (b ≡ c) × (rest ≡ after)) ⊎ ((digit b ≡ true) × (amount a (f ++ b ∷ []) ≤ amount a g))
split a b c rest after [] [] df dg nd e = inl (refl, ap head e, ap tail e)
split a b c rest after [] (d ∷ ds) df dg nd e =
    let s : b ≡ d = ap head e in
    inr (ap digit s ∙ dg.0, subst (λ x. a * 10 + (x - 48) ≤ amount (a * 10 + (d - 48)) ds) (sym s) (grows (a * 10 + (d - 48)) ds))
split a b c rest after (x ∷ xs) [] df dg nd e = let s : x ≡ c = ap head e in absurd (true≢false (sym df.0 ∙ ap digit s ∙ nd))
split a b c rest after (x ∷ xs) (d ∷ ds) df dg nd e =
    let s : x ≡ d = ap head e in
    elim (split (a * 10 + (x - 48)) b c rest after xs ds df.1 dg.1 nd (ap tail e)) [
      | inl p ↦ inl (ap (λ l. x ∷ l) p.0 ∙ ap (λ y. y ∷ ds) s, p.1, p.2)
      | inr p ↦ inr (p.0, subst (λ y. amount (a * 10 + (x - 48)) (xs ++ b ∷ []) ≤ amount (a * 10 + (y - 48)) ds) s p.1)
    ]

module _ (f : List ℕ) (n : Option ℕ) (b : ℕ) (gives : Gives f n) where
  so_far : unwrap_or n 0 ≡ amount 0 f
  so_far = gives.1 0 ∙ or_else_zero f

  with_byte : amount 0 (f ++ b ∷ []) ≡ unwrap_or n 0 * 10 + (b - 48)
  with_byte = amount_push 0 f b ∙ ap (λ x. x * 10 + (b - 48)) (sym so_far)

  -- one digit more
  pub grown : digit b && leb (unwrap_or n 0 * 10 + (b - 48)) 65535 ≡ true → Gives (f ++ b ∷ []) (Some (unwrap_or n 0 * 10 + (b - 48)))
  grown e =
      let p = and_parts (digit b) (leb (unwrap_or n 0 * 10 + (b - 48)) 65535) e in (
        (digits_push f b gives.0.0 p.0, subst (λ x. x ≤ 65535) (sym with_byte) (leb-true _ _ p.1)),
        λ k. sym (or_else_push k f b ∙ with_byte),
      )

  -- where the byte gives no digit more, no number of at most 65535 goes on with it
  pub stuck : digit b && leb (unwrap_or n 0 * 10 + (b - 48)) 65535 ≡ false → (g : List ℕ) → Number g → (c : ℕ) (rest after : List ℕ) → digit c ≡ false → f ++ b ∷ rest ≡ g ++ c ∷ after → b ≡ c
  stuck e g num c rest after nd is =
      elim (split 0 b c rest after f g gives.0.0 num.0 nd is) [
        | inl p ↦ p.1
        | inr p ↦
            let le : unwrap_or n 0 * 10 + (b - 48) ≤ 65535 = (let u = num.1 in let v = p.1 in omega (arith, with_byte)) in
            absurd (true≢false (sym (and_from (digit b) (leb (unwrap_or n 0 * 10 + (b - 48)) 65535) p.0 (le-leb _ _ le)) ∙ e))
      ]
