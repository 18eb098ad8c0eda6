use Rattle.std.proofs.Common.{◌≡◌, ◌+◌, length}
use Rattle.report.specs.Letters.{spelled}
use Rattle.report.proofs.letters.Letters.count.Given as goal

abbrev pub invariant-loop-n : goal.invariant-loop-n
invariant-loop-n l = length (spelled l.self.spelling) ≡ l.n + length (spelled l.rest.spelling)
