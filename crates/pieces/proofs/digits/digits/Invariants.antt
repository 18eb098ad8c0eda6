use Rattle.std.proofs.Common.{◌≡◌, ◌++◌, drop}
use Rattle.dialect.specs.KittyBytes.{optional}
use Rattle.pieces.specs.Runs.{Within}
use Rattle.pieces.proofs.digits.digits.Given as goal

abbrev pub invariant-loop-i : goal.invariant-loop-i
invariant-loop-i l = record {
  within : Within l.range l.value;
  split : drop l.at l.bytes ≡ optional l.value ++ drop l.i l.bytes;
}
