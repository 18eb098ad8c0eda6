-- A number in decimal, digit by digit from the front.
use Rattle.std.proofs.Common.{◌≡◌, ℕ, ◌+◌, ◌*◌, ◌/◌, ◌%◌, ◌^◌, ◌<◌, ◌≤◌, true, ◌&&◌, List, [], ◌∷◌, ◌++◌, map, get_or, decimal, ap, ◌∙◌, inl, inr, arith}
use Rattle.std.specs.Str.Parse.{digits_value}
use Rattle.std.specs.Char.{is_ascii_digit, digit_value}
use Rattle.std.specs.Str.{all_ascii_digits}
use Rattle.std.specs.Int.Digits.{number_from_digits, number_from_digits_after}
use Rattle.std.proofs.lemmas.Fmt.{decimal_step, decimal_is_IsNumeral, first_decimal}
use Rattle.std.proofs.lemmas.Int.Digits.{digits_value_is, number_after_append, number_after_ge}
use Rattle.std.proofs.lemmas.List.{map-append}
use Rattle.std.proofs.lemmas.Bool.{and_parts, cases_lt, leb-true}
use Rattle.dialect.specs.Numbers.{Stops, clash}

-- one digit more
pub decimal_extend : (n d : ℕ) → 0 < n → d < 10 → n < 2 ^ 32 → decimal (n * 10 + d) ≡ decimal n ++ ((48 + d) ∷ [])
decimal_extend n d h k small =
    let q : (n * 10 + d) / 10 ≡ n = omega arith in
    let r : (n * 10 + d) % 10 ≡ d = omega arith in
    decimal_step (n * 10 + d) (omega arith) (omega arith) ∙ ap (λ x. decimal x ++ ((48 + (n * 10 + d) % 10) ∷ [])) q ∙ ap (λ x. decimal n ++ ((48 + x) ∷ [])) r

-- only 0 begins with the digit 0
pub zero_alone : (n : ℕ) (ds : List ℕ) → n < 2 ^ 64 → decimal n ≡ 48 ∷ ds → n ≡ 0
zero_alone n ds h e =
    let first : get_or (decimal n) 0 0 ≡ 48 = ap (λ (bs : List ℕ). get_or bs 0 0) e in
    elim (cases_lt 0 n) [ inl p ↦ absurd (omega (arith, first, first_decimal n p h)) | inr z ↦ omega arith ]

-- a number is at least what a front of its digits says
pub front_le : (x n : ℕ) (ds : List ℕ) → x < 2 ^ 64 → n < 2 ^ 64 → decimal x ≡ decimal n ++ ds → n ≤ x
front_le x n ds hx hn e =
    let a : digits_value 10 (decimal x) ≡ x = (decimal_is_IsNumeral x hx).1 in
    let b : digits_value 10 (decimal n) ≡ n = (decimal_is_IsNumeral n hn).1 in
    let p : digits_value 10 (decimal x) ≡ number_from_digits_after 10 (number_from_digits 10 (map digit_value (decimal n))) (map digit_value ds) = ap (digits_value 10) e ∙ digits_value_is 10 (decimal n ++ ds) ∙ ap (number_from_digits 10) (map-append digit_value (decimal n) ds) ∙ number_after_append 10 0 (map digit_value (decimal n)) (map digit_value ds) in
    let q = digits_value_is 10 (decimal n) in
    let r = number_after_ge 10 (number_from_digits 10 (map digit_value (decimal n))) (map digit_value ds) (omega arith) in
    omega (arith, a, b, p, q, r)

-- where a digit comes after digits, the number that is written there goes on with it
pub digits_go_on : (xs ds u ys : List ℕ) (b : ℕ) → all_ascii_digits ds ≡ true → is_ascii_digit b ≡ true → Stops u → xs ++ u ≡ ds ++ (b ∷ ys) → (w : List ℕ) × (xs ≡ ds ++ (b ∷ w))
digits_go_on [] [] u ys b d i st e = absurd (clash b [] u st (ap (λ x. x && true) i) ys e)
digits_go_on [] (x ∷ ds) u ys b d i st e = absurd (clash x ds u st d (ds ++ (b ∷ ys)) e)
digits_go_on (x ∷ xs) [] u ys b d i st e = let h : x ≡ b = cc in (xs, ap (λ z. z ∷ xs) h)
digits_go_on (x ∷ xs) (y ∷ ds) u ys b d i st e =
    let h : x ≡ y = cc in
    let r : xs ++ u ≡ ds ++ (b ∷ ys) = cc in
    let p = digits_go_on xs ds u ys b (and_parts (is_ascii_digit y) (all_ascii_digits ds) d).1 i st r in
    (p.0, cc (h, p.1))

pub digit_range : (b : ℕ) → is_ascii_digit b ≡ true → (48 ≤ b) × (b ≤ 57)
digit_range b e = search (arith, leb-true)
