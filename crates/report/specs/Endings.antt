-- The numbers of the directions, and the bytes that end a sequence, in both dialects.
use Rattle.std.specs.Prelude.{ℕ, Bool, List, ◌==◌, [], ◌∷◌, codes}
use Rattle.report.specs.declared.ending.Direction.{Direction}
use Rattle.report.specs.declared.ending.Direction.TheVariants.{Press, Release}
use Rattle.report.specs.declared.ending.Last.{Last}
use Rattle.report.specs.declared.ending.Last.TheVariants.{U, Tilde, Up, Down, Right, Left, Begin, End, Home}

abbrev pub direction_number : Direction → ℕ
direction_number Press = 1
direction_number Release = 3

abbrev pub direction_name : Direction → List ℕ
direction_name Press = codes "press"
direction_name Release = codes "release"

abbrev pub is_press : Direction → Bool
is_press d = direction_number d == 1

-- the byte that ends a sequence
abbrev pub last_byte : Last → ℕ
last_byte U = 117
last_byte Tilde = 126
last_byte Up = 65
last_byte Down = 66
last_byte Right = 67
last_byte Left = 68
last_byte Begin = 69
last_byte End = 70
last_byte Home = 72

-- a final byte is printed as itself
abbrev pub last_text : Last → List ℕ
last_text l = last_byte l ∷ []

-- the final E
abbrev pub is_begin : Last → Bool
is_begin l = last_byte l == 69
