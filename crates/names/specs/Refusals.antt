-- A fault's number, and the place that it speaks of, or 0.
use Rattle.std.specs.Prelude.{ℕ}
use Rattle.numbers.specs.Numbers.{refusal}
use Rattle.names.specs.declared.fault.NameFault.{NameFault}
use Rattle.names.specs.declared.fault.NameFault.TheVariants.{NotUtf8, Unknown, Number, NotAllowed, TooLong, NoRoom}

abbrev pub refusal_of : NameFault → ℕ
refusal_of (NotUtf8 p) = 1
refusal_of (Unknown p) = 2
refusal_of (Number e) = refusal e.kind
refusal_of NotAllowed = 5
refusal_of (TooLong p) = 7
refusal_of NoRoom = 13

abbrev pub place_of : NameFault → ℕ
place_of (NotUtf8 p) = p
place_of (Unknown p) = p
place_of (Number e) = e.place
place_of NotAllowed = 0
place_of (TooLong p) = p
place_of NoRoom = 0
