-- The key that bears a name, or what is wrong with the name.
use Rattle.std.specs.Prelude.{ℕ, List, [], ◌∷◌, Some, None, Ok, Err, codes, Option, Result}
use Rattle.std.specs.Option.{option_map, unwrap_or}
use Rattle.std.specs.Str.{chars}
use Rattle.numbers.specs.declared.NumberFault.{NumberFault}
use Rattle.numbers.specs.Numbers.{number_of, within, placed}
use Rattle.tables.specs.Tables.{bears}
use Rattle.texts.specs.Texts.{follows, only}
use Rattle.input_types.specs.declared.key_code.KeyCode.{KeyCode}
use Rattle.input_types.specs.declared.key_code.KeyCode.TheVariants as K
use Rattle.names.specs.declared.fault.NameFault.{NameFault}
use Rattle.names.specs.declared.fault.NameFault.TheVariants.{Unknown, Number}
use Rattle.names.specs.Reads.{char_key}
use Rattle.key_names.specs.KeyTable.{keys}

-- the key of a text's only character
abbrev pub single : List ℕ → Result KeyCode NameFault
single cs = unwrap_or (option_map char_key (only cs)) (Err (Unknown 0))

-- what follows, where something does
abbrev pub more : Option (List ℕ) → Option (List ℕ)
more None = None
more (Some []) = None
more (Some (b ∷ bs)) = Some (b ∷ bs)

-- a key with a number, whose fault is the name's
abbrev pub numbered : (ℕ → KeyCode) → Result ℕ NumberFault → Result KeyCode NameFault
numbered key (Ok n) = Ok (key n)
numbered key (Err e) = Err (Number e)

abbrev pub keypad : List ℕ → Result KeyCode NameFault
keypad s = numbered K.Numpad (placed 6 (within 0 9 (number_of s)))

abbrev pub function : List ℕ → Result KeyCode NameFault
function s = numbered K.Function (placed 1 (within 1 24 (number_of s)))

-- a key's name is in the table; else Numpad and a number; else F and more, which is a number; else one character
abbrev pub key_named : List ℕ → Result KeyCode NameFault
key_named s =
    unwrap_or (option_map Ok (bears keys s))
    (unwrap_or (option_map keypad (follows (codes "Numpad") s))
    (unwrap_or (option_map function (more (follows (codes "F") s)))
    (single (chars s))))
