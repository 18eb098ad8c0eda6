use Rattle.std.proofs.Common.{◌≡◌, drop, Ok}
use Rattle.numbers.specs.Numbers.{digits_from}
use Rattle.numbers.proofs.digits_value.Given as goal

abbrev pub invariant-loop-b : goal.invariant-loop-b
invariant-loop-b l = digits_from (Ok l.n) (drop l.b-index l.digits) ≡ digits_from (Ok 0) l.digits
