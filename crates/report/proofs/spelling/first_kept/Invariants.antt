use Rattle.std.proofs.Common.{◌≡◌, length, IsUtf8}
use Rattle.std.specs.Str.Iter.{chars_rest}
use Rattle.std.specs.Str.{chars}
use Rattle.report.specs.Letters.{shown}
use Rattle.report.proofs.spelling.first_kept.Given as goal

abbrev pub decreases-loop-c : goal.decreases-loop-c
decreases-loop-c l = length (chars_rest l.rest)

abbrev pub invariant-loop-c : goal.invariant-loop-c
invariant-loop-c l = (shown (chars (chars_rest l.rest)) ≡ shown (chars l.text)) × IsUtf8 (chars_rest l.rest)
