-- What a name says, or what is wrong with it.
use Rattle.std.specs.Prelude.{ℕ, cond, List, length, Some, None, Ok, Err, Option, Result}
use Rattle.tables.specs.Tables.{bears}
use Rattle.texts.specs.Texts.{utf8, front, allowed}
use Rattle.input_types.specs.declared.key_code.KeyCode.{KeyCode}
use Rattle.input_types.specs.declared.key_code.KeyCode.TheVariants as K
use Rattle.input_types.specs.declared.phys_key_code.PhysKeyCode.{PhysKeyCode}
use Rattle.names.specs.declared.fault.NameFault.{NameFault}
use Rattle.names.specs.declared.fault.NameFault.TheVariants.{NotUtf8, Unknown, NotAllowed}
use Rattle.names.specs.PhysTable.{places}

-- what text means; other bytes are refused, with how many of them are text
abbrev pub of_text : {A : Type 0} → (List ℕ → Result A NameFault) → List ℕ → Result A NameFault
of_text meaning bs = cond (utf8 bs) (meaning bs) (Err (NotUtf8 (front (length bs) bs)))

-- what there is, and the fault where there is nothing
abbrev pub or_else : {A : Type 0} → NameFault → Option A → Result A NameFault
or_else fault None = Err fault
or_else fault (Some x) = Ok x

-- the key of a character, where that is allowed
abbrev pub char_key : ℕ → Result KeyCode NameFault
char_key c = cond (allowed c) (Ok (K.Char c)) (Err NotAllowed)

-- a place's name is in the table
abbrev pub place_named : List ℕ → Result PhysKeyCode NameFault
place_named s = or_else (Unknown 0) (bears places s)
