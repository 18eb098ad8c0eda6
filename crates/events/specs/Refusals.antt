-- A fault's number, the place that it speaks of, or 0, and what it is printed as.
use Rattle.std.specs.Prelude.{ℕ, List, codes}
use Rattle.events.specs.declared.fault.Fault.{Fault}
use Rattle.events.specs.declared.fault.Fault.TheVariants.{NotAllowed, OutOfRange, NotText, TooLong}

abbrev pub number : Fault → ℕ
number NotAllowed = 5
number OutOfRange = 6
number (NotText p) = 1
number (TooLong p) = 7

abbrev pub place : Fault → ℕ
place NotAllowed = 0
place OutOfRange = 0
place (NotText p) = p
place (TooLong p) = p

abbrev pub meaning : Fault → List ℕ
meaning NotAllowed = codes "a character that stands for another key"
meaning OutOfRange = codes "a key number out of range, or a bit without a name"
meaning (NotText p) = codes "not UTF-8 from that byte on"
meaning (TooLong p) = codes "more than 32 characters"
