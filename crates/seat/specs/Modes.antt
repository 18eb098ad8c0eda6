-- The numbers of the modes, and the settings that they make.
use Rattle.std.specs.Prelude.{ℕ, bit_or}
use Rattle.input_types.specs.Bits.{without}
use Rattle.seat.specs.declared.mode.Mode.{Mode}
use Rattle.seat.specs.declared.mode.Mode.TheVariants.{Replace, Add, Clear}

abbrev pub mode_number : Mode → ℕ
mode_number Replace = 1
mode_number Add = 2
mode_number Clear = 3

-- the setting in force after a change, from the one before it and the one given
abbrev pub applied : Mode → ℕ → ℕ → ℕ
applied Replace top given = given
applied Add top given = bit_or top given
applied Clear top given = without top given
