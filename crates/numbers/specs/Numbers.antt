-- A number as text: the digits from the left, and which fault a text has.
use Rattle.std.specs.Prelude.{ℕ, ◌+◌, ◌-◌, ◌*◌, Bool, cond, ◌&&◌, List, [], ◌∷◌, Ok, Err, Result, ◌==◌, nat_le, nat_lt}
use Rattle.numbers.specs.declared.NumberKind.{NumberKind}
use Rattle.numbers.specs.declared.NumberKind.TheVariants.{Empty, NotDigit, TooBig, OutOfRange}
use Rattle.numbers.specs.declared.NumberFault.{NumberFault}

abbrev digit : ℕ → Bool
digit b = nat_le 48 b && nat_le b 57

-- a number with one more digit at its end
abbrev pub with_digit : ℕ → ℕ → Result ℕ NumberKind
with_digit n b = cond (digit b) (cond (nat_lt 255 (n * 10 + (b - 48))) (Err TooBig) (Ok (n * 10 + (b - 48)))) (Err NotDigit)

abbrev then : Result ℕ NumberKind → ℕ → Result ℕ NumberKind
then (Ok n) b = with_digit n b
then (Err k) b = Err k

-- the digits from the left, from the number so far; a fault stays
abbrev pub digits_from : Result ℕ NumberKind → List ℕ → Result ℕ NumberKind
digits_from r [] = r
digits_from r (b ∷ bs) = digits_from (then r b) bs

abbrev after_plus : List ℕ → Result ℕ NumberKind
after_plus [] = Err NotDigit
after_plus (b ∷ bs) = digits_from (Ok 0) (b ∷ bs)

-- a number is some digits, with one plus in front or none
abbrev pub number_of : List ℕ → Result ℕ NumberKind
number_of [] = Err Empty
number_of (b ∷ bs) = cond (b == 43) (after_plus bs) (digits_from (Ok 0) (b ∷ bs))

-- only the numbers from low to high
abbrev pub within : ℕ → ℕ → Result ℕ NumberKind → Result ℕ NumberKind
within low high (Ok n) = cond (nat_le low n && nat_le n high) (Ok n) (Err OutOfRange)
within low high (Err k) = Err k

-- a fault with the place where the number begins
abbrev pub placed : ℕ → Result ℕ NumberKind → Result ℕ NumberFault
placed at (Ok n) = Ok n
placed at (Err k) = Err record { kind = k; place = at }

-- the number of the refusal
abbrev pub refusal : NumberKind → ℕ
refusal Empty = 3
refusal NotDigit = 3
refusal TooBig = 3
refusal OutOfRange = 4
