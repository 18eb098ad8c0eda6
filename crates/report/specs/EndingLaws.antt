-- Numbers tell the directions, and final bytes the ends of a sequence.
use Rattle.std.specs.Prelude.{◌≡◌, ℕ, ◌<◌, ◌≤◌, false, cond, ◌==◌, refl}
use Rattle.std.proofs.Common.{sym, ap, ◌∙◌, arith}
use Rattle.std.specs.Char.{is_ascii_digit}
use Rattle.report.specs.declared.ending.Direction.{Direction}
use Rattle.report.specs.declared.ending.Direction.TheVariants.{Press, Release}
use Rattle.report.specs.declared.ending.Last.{Last}
use Rattle.report.specs.declared.ending.Last.TheVariants.{U, Tilde, Up, Down, Right, Left, Begin, End, Home}
use Rattle.report.specs.Endings.{direction_number, last_byte}

-- the direction that a number stands for
direction_of : ℕ → Direction
direction_of n = cond (n == 1) Press Release

direction_of-number : (d : Direction) → direction_of (direction_number d) ≡ d
unfolding direction_of
direction_of-number Press = refl
direction_of-number Release = refl

pub direction_same : (d e : Direction) → direction_number d ≡ direction_number e → d ≡ e
direction_same d e h = sym (direction_of-number d) ∙ ap direction_of h ∙ direction_of-number e

-- a direction's number is a digit
pub direction_digit : (d : Direction) → (1 ≤ direction_number d) × (direction_number d ≤ 9)
direction_digit Press = (omega arith, omega arith)
direction_digit Release = (omega arith, omega arith)

-- the end that a byte stands for
last_of : ℕ → Last
last_of b = cond (b == 117) U (cond (b == 126) Tilde (cond (b == 65) Up (cond (b == 66) Down (cond (b == 67) Right (cond (b == 68) Left (cond (b == 69) Begin (cond (b == 70) End Home)))))))

last_of-byte : (l : Last) → last_of (last_byte l) ≡ l
unfolding last_of
last_of-byte U = refl
last_of-byte Tilde = refl
last_of-byte Up = refl
last_of-byte Down = refl
last_of-byte Right = refl
last_of-byte Left = refl
last_of-byte Begin = refl
last_of-byte End = refl
last_of-byte Home = refl

pub last_same : (k l : Last) → last_byte k ≡ last_byte l → k ≡ l
last_same k l e = sym (last_of-byte k) ∙ ap last_of e ∙ last_of-byte l

-- a final byte is no digit, no colon and no semicolon
pub last_high : (l : Last) → 59 < last_byte l
last_high U = omega arith
last_high Tilde = omega arith
last_high Up = omega arith
last_high Down = omega arith
last_high Right = omega arith
last_high Left = omega arith
last_high Begin = omega arith
last_high End = omega arith
last_high Home = omega arith

pub last_stops : (l : Last) → is_ascii_digit (last_byte l) ≡ false
last_stops U = refl
last_stops Tilde = refl
last_stops Up = refl
last_stops Down = refl
last_stops Right = refl
last_stops Left = refl
last_stops Begin = refl
last_stops End = refl
last_stops Home = refl

pub last_byte_lem : (l : Last) → last_byte l ≤ 255
last_byte_lem U = omega arith
last_byte_lem Tilde = omega arith
last_byte_lem Up = omega arith
last_byte_lem Down = omega arith
last_byte_lem Right = omega arith
last_byte_lem Left = omega arith
last_byte_lem Begin = omega arith
last_byte_lem End = omega arith
last_byte_lem Home = omega arith
