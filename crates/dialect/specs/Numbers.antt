-- A number in decimal, and what follows it where that begins with no digit, are told by the bytes.
use Rattle.std.specs.Prelude.{◌≡◌, ℕ, ◌^◌, ◌<◌, ◌≤◌, true, false, List, [], ◌∷◌, ◌++◌, length, Some, None, decimal, Option, ◌≢◌, refl}
use Rattle.std.proofs.Common.{sym, ap, subst, arith}
use Rattle.std.specs.Char.{is_ascii_digit}
use Rattle.std.specs.Str.Parse.{digits_value}
use Rattle.std.specs.Str.{all_ascii_digits}
use Rattle.std.proofs.lemmas.Bool.{and_parts, both_ways}
use Rattle.std.proofs.lemmas.Str.Parse.{IsNumeralModel, numerals_by_value, tells_all_ascii_digits}
use Rattle.std.proofs.lemmas.Fmt.{digits_decimal, decimal_injective, decimal_nonempty, length-decimal-le}
use Rattle.report.specs.Meanings.{Coded}
use Rattle.dialect.specs.KittyBytes.{optional}

-- begins with no digit
abbrev pub Stops : List ℕ → Type 0
Stops [] = Unit {0}
Stops (b ∷ bs) = is_ascii_digit b ≡ false

-- a digit is where none should be
pub clash : (x : ℕ) (xs t : List ℕ) → Stops t → all_ascii_digits (x ∷ xs) ≡ true → (u : List ℕ) → t ≢ x ∷ u
clash x xs t st d u e =
    let a = (and_parts (is_ascii_digit x) (all_ascii_digits xs) d).0 in
    both_ways (is_ascii_digit x) (subst Stops e st) a

pub digits_end : (xs ys t u : List ℕ) → all_ascii_digits xs ≡ true → all_ascii_digits ys ≡ true → Stops t → Stops u → xs ++ t ≡ ys ++ u → (xs ≡ ys) × (t ≡ u)
digits_end [] [] t u d f st su e = (refl, e)
digits_end [] (y ∷ ys) t u d f st su e = absurd (clash y ys t st f (ys ++ u) e)
digits_end (x ∷ xs) [] t u d f st su e = absurd (clash x xs u su d (xs ++ t) (sym e))
digits_end (x ∷ xs) (y ∷ ys) t u d f st su e =
    let h : x ≡ y = cc in
    let r : xs ++ t ≡ ys ++ u = cc in
    let p = digits_end xs ys t u (and_parts (is_ascii_digit x) (all_ascii_digits xs) d).1 (and_parts (is_ascii_digit y) (all_ascii_digits ys) f).1 st su r in
    (cc (h, p.0), p.1)

own : IsNumeralModel (λ ds. all_ascii_digits ds ≡ true) (digits_value 10)
own = numerals_by_value _ tells_all_ascii_digits

pub all_digits : (n : ℕ) → n < 2 ^ 64 → all_ascii_digits (decimal n) ≡ true
all_digits n h = digits_decimal own n h

pub optional_same : (o p : Option ℕ) (t u : List ℕ) → Coded o → Coded p → Stops t → Stops u → optional o ++ t ≡ optional p ++ u → (o ≡ p) × (t ≡ u)
optional_same None None t u h k st su e = (refl, e)
optional_same None (Some n) t u h k st su e =
    let p = digits_end [] (decimal n) t u refl (all_digits n (omega arith)) st su e in
    let l = ap length p.0 in absurd (omega (arith, decimal_nonempty n (omega arith)))
optional_same (Some m) None t u h k st su e =
    let p = digits_end (decimal m) [] t u (all_digits m (omega arith)) refl st su e in
    let l = ap length p.0 in absurd (omega (arith, decimal_nonempty m (omega arith)))
optional_same (Some m) (Some n) t u h k st su e =
    let p = digits_end (decimal m) (decimal n) t u (all_digits m (omega arith)) (all_digits n (omega arith)) st su e in
    (ap Some (decimal_injective m n (omega arith) (omega arith) p.0), p.1)

pub decimal_same : (m n : ℕ) (t u : List ℕ) → m ≤ 1114111 → n ≤ 1114111 → Stops t → Stops u → decimal m ++ t ≡ decimal n ++ u → (m ≡ n) × (t ≡ u)
decimal_same m n t u h k st su e =
    let p = optional_same (Some m) (Some n) t u h k st su e in
    let q : m ≡ n = cc p.0 in
    (q, p.1)

-- a number does not begin with the byte b, which is no digit
pub decimal_not : (m b : ℕ) (t u : List ℕ) → m ≤ 1114111 → is_ascii_digit b ≡ false → decimal m ++ t ≢ b ∷ u
decimal_not m b t u h nb e = go (decimal m) (all_digits m (omega arith)) (decimal_nonempty m (omega arith)) e
  where
    go : (ds : List ℕ) → all_ascii_digits ds ≡ true → 0 < length ds → ds ++ t ≢ b ∷ u
    go [] d l e = omega arith
    go (x ∷ xs) d l e = clash x xs (b ∷ u) nb d (xs ++ t) (sym e)

-- a code has at most seven digits
pub code_short : (n : ℕ) → n ≤ 1114111 → length (decimal n) ≤ 7
code_short n h = length-decimal-le 7 n (omega arith) (omega arith) (omega arith)
