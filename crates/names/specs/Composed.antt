-- The key that text from an input method makes.
use Rattle.std.specs.Prelude.{ℕ, List, Some, None, Ok, Err, Option, Result}
use Rattle.std.specs.Borrow.{Bor}
use Rattle.std.specs.Option.{option_map, unwrap_or}
use Rattle.std.specs.Str.{chars}
use Rattle.texts.specs.Texts.{only, place_after}
use Rattle.input_types.specs.declared.key_code.KeyCode.{KeyCode}
use Rattle.input_types.specs.declared.key_code.KeyCode.TheVariants as K
use Rattle.names.specs.declared.fault.NameFault.{NameFault}
use Rattle.names.specs.declared.fault.NameFault.TheVariants.{TooLong}
use Rattle.names.specs.Reads.{of_text, char_key}

-- the text itself, unless a character stands beyond its limit
abbrev pub whole : Bor (List ℕ) → Option ℕ → Result KeyCode NameFault
whole text None = Ok (K.Composed text)
whole text (Some place) = Err (TooLong place)

-- a single character is its key; any other text of at most 32 characters stays whole
abbrev pub of_chars : Bor (List ℕ) → List ℕ → Result KeyCode NameFault
of_chars text cs = unwrap_or (option_map char_key (only cs)) (whole text (place_after 0 32 cs))

abbrev pub composed_of : Bor (List ℕ) → Result KeyCode NameFault
composed_of text = of_text (λ bs. of_chars text (chars bs)) text.now
