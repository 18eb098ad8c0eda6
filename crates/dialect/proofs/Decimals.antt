-- Decimals by pairs of digits.
use Rattle.std.proofs.Common.{◌≡◌, ℕ, ◌+◌, ◌<◌, ◌≤◌, [], ◌∷◌, ◌++◌, length, decimal, ◌/◌, ◌%◌, ◌^◌, List, refl, ap, ◌∙◌, append_assoc, arith, length-append}
use Rattle.std.proofs.lemmas.Fmt.{decimal_digit, decimal_step}

-- the two digits of a number below 100
abbrev pub pair : ℕ → List ℕ
pair n = (48 + n / 10) ∷ (48 + n % 10) ∷ []

pub two : (n : ℕ) → 10 ≤ n → n < 100 → decimal n ≡ pair n
two n h l = decimal_step n h (omega arith) ∙ ap (λ ds. ds ++ ((48 + n % 10) ∷ [])) (decimal_digit (n / 10) (omega arith))

-- two digits behind those of a hundredth
pub more : (n : ℕ) → 100 ≤ n → n < 2 ^ 32 → decimal n ≡ decimal (n / 100) ++ pair (n % 100)
more n h l =
    let front : n / 10 / 10 ≡ n / 100 = omega arith in
    let tens : n / 10 % 10 ≡ n % 100 / 10 = omega arith in
    let ones : n % 10 ≡ n % 100 % 10 = omega arith in
    rw (decimal_step n (omega arith) (omega arith), decimal_step (n / 10) (omega arith) (omega arith), append_assoc, front, tens, ones) refl

pub longer : (n : ℕ) → 100 ≤ n → n < 2 ^ 32 → length (decimal n) ≡ length (decimal (n / 100)) + 2
longer n h l = ap length (more n h l) ∙ length-append (decimal (n / 100)) (pair (n % 100))

-- four digits behind those of a ten-thousandth
pub four : (n : ℕ) → 10000 ≤ n → n < 2 ^ 32 → decimal n ≡ (decimal (n / 10000) ++ pair (n / 100 % 100)) ++ pair (n % 100)
four n h l =
    let front : n / 100 / 100 ≡ n / 10000 = omega arith in
    more n (omega arith) l ∙ ap (λ ds. ds ++ pair (n % 100)) (more (n / 100) (omega arith) (omega arith) ∙ ap (λ k. decimal k ++ pair (n / 100 % 100)) front)

pub four_longer : (n : ℕ) → 10000 ≤ n → n < 2 ^ 32 → length (decimal n) ≡ length (decimal (n / 10000)) + 4
four_longer n h l =
    let front : n / 100 / 100 ≡ n / 10000 = omega arith in
    let a = longer n (omega arith) l in
    let b = longer (n / 100) (omega arith) (omega arith) in
    let c = ap (λ k. length (decimal k)) front in
    omega (arith, a, b, c)
