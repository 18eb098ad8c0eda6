-- One character more of a text whose control codes are dropped.
use Rattle.std.proofs.Common.{◌≡◌, ℕ, suc, ◌≤◌, true, false, List, [], ◌∷◌, ◌++◌, length, IsUtf8, refl, append_assoc, arith}
use lib.Utf8.{encode}
use lib.Utf8.{scalar, scalars}
use Rattle.std.proofs.lemmas.Bool.{and_parts, and_from, cond_both}
use Rattle.std.specs.Str.{chars}
use Rattle.std.proofs.lemmas.Str.{chars_past_char, chars-nil, IsUtf8-past_char}
use Rattle.report.specs.Letters.{keeps, shown}

module _ (xs bs rest : List ℕ) (c : ℕ) (u : IsUtf8 bs) (e : bs ≡ encode c ++ rest) where
  pub kept : keeps c ≡ true → (xs ++ c ∷ []) ++ shown (chars rest) ≡ xs ++ shown (chars bs)
  kept k = rw (chars_past_char bs rest c u e, k, append_assoc) refl

  pub dropped : keeps c ≡ false → xs ++ shown (chars rest) ≡ xs ++ shown (chars bs)
  dropped k = rw (chars_past_char bs rest c u e, k) refl

  pub fewer : length (chars bs) ≡ suc (length (chars rest))
  fewer = rw (chars_past_char bs rest c u e) refl

  pub after : IsUtf8 rest
  after = IsUtf8-past_char bs rest c u e

pub nothing : (xs bs : List ℕ) → length bs ≡ 0 → xs ++ shown (chars bs) ≡ xs ++ []
nothing xs [] h = rw chars-nil refl
nothing xs (b ∷ bs) h = absurd (omega arith)

pub shown_few : (xs : List ℕ) → length (shown xs) ≤ length xs
shown_few [] = omega arith
shown_few (x ∷ xs) = cond_both (keeps x) (x ∷ shown xs) (shown xs) (λ ys. length ys ≤ suc (length xs)) (λ _. omega (arith, shown_few xs)) (λ _. omega (arith, shown_few xs))

pub shown_scalars : (xs : List ℕ) → scalars xs ≡ true → scalars (shown xs) ≡ true
shown_scalars [] h = refl
shown_scalars (x ∷ xs) h =
    let p = and_parts (scalar x) (scalars xs) h in
    let s = shown_scalars xs p.1 in
    cond_both (keeps x) (x ∷ shown xs) (shown xs) (λ ys. scalars ys ≡ true) (λ _. and_from (scalar x) (scalars (shown xs)) p.0 s) (λ _. s)
