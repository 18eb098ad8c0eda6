use Rattle.std.proofs.Common.{◌≡◌, ◌++◌, length, take, drop}
use Rattle.reading.proofs.filling.put_codes.Given as goal

abbrev pub invariant-loop-i : goal.invariant-loop-i
invariant-loop-i l = record {
  long : length l.row ≡ length l.initial.row;
  filled : l.row ≡ take l.i l.codes ++ drop l.i l.initial.row;
}
