-- The faults of a reader, by their numbers.
use Rattle.std.specs.Prelude.{ℕ}
use Rattle.pieces.specs.declared.found.Fault.{Fault}
use Rattle.pieces.specs.declared.found.Fault.TheVariants.{Short, Unknown}
use Rattle.reading.specs.declared.faults.ReadFault.{ReadFault}
use Rattle.reading.specs.declared.faults.ReadFault.TheVariants.{Short as TooShort, Unknown as NotKnown, Narrow}

abbrev pub fault_number : ReadFault → ℕ
fault_number TooShort = 11
fault_number NotKnown = 12
fault_number Narrow = 13

abbrev pub read_fault : Fault → ReadFault
read_fault Short = TooShort
read_fault Unknown = NotKnown
