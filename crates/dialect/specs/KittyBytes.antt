-- A report as the kitty keyboard protocol writes it.
use Rattle.std.specs.Prelude.{ℕ, ◌+◌, Bool, cond, ◌&&◌, List, [], ◌∷◌, ◌++◌, Some, None, decimal, Option, ◌==◌}
use Rattle.std.proofs.Math.Utf8.{encode}
use Rattle.report.specs.declared.ending.Direction.{Direction}
use Rattle.report.specs.Meanings.{Meaning, Fields, text, old, answer, sequence}
use Rattle.report.specs.Endings.{direction_number, is_press, is_begin, last_byte}

-- a code in decimal, or nothing where it is absent
abbrev pub optional : Option ℕ → List ℕ
optional None = []
optional (Some n) = decimal n

-- a colon and the shifted code, which is empty where only a base code is present; a colon and the base code
abbrev pub alternates : Option ℕ → Option ℕ → List ℕ
alternates None None = []
alternates (Some s) None = 58 ∷ decimal s
alternates s (Some b) = 58 ∷ (optional s ++ (58 ∷ decimal b))

-- a colon and the direction's digit, where it is no press
abbrev pub event : Direction → List ℕ
event d = cond (is_press d) [] (58 ∷ (48 + direction_number d) ∷ [])

-- a colon before each character
abbrev pub further : List ℕ → List ℕ
further [] = []
further (c ∷ cs) = 58 ∷ (decimal c ++ further cs)

-- a semicolon and the characters, joined by colons, where there are any
abbrev pub typed : List ℕ → List ℕ
typed [] = []
typed (c ∷ cs) = 59 ∷ (decimal c ++ further cs)

-- what follows ESC [ : the number, the alternate codes, the modifiers, the direction, the text and the final byte
abbrev pub parts : Fields → List ℕ
parts f = decimal f.number ++ (alternates f.shifted f.base ++ (59 ∷ (decimal (f.sum + 1) ++ (event f.direction ++ (typed f.text ++ (last_byte f.last ∷ []))))))

-- the press of number 1 with the final E and no modifier
abbrev pub plain : Fields → Bool
plain f = f.number == 1 && (is_begin f.last && (is_press f.direction && f.sum == 0))

abbrev pub kitty_bytes : Meaning → List ℕ
kitty_bytes (text c) = encode c
kitty_bytes (old c) = 27 ∷ encode c
kitty_bytes (answer n) = 27 ∷ 91 ∷ 63 ∷ (decimal n ++ (117 ∷ []))
kitty_bytes (sequence f) = 27 ∷ 91 ∷ cond (plain f) (69 ∷ []) (parts f)
