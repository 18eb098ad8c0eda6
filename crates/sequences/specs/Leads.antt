-- What stands before the text of a sequence, as its numbers alone.
use Rattle.std.specs.Prelude.{ℕ, Option}
use Rattle.report.specs.declared.ending.Direction.{Direction}
use Rattle.sequences.specs.declared.told.Head.{Head}

pub record Lead : Type 0 where
  pub number : ℕ
  pub shifted : Option ℕ
  pub base : Option ℕ
  pub sum : ℕ
  pub direction : Direction

abbrev pub lead : Head → Lead
lead h = record { number = h.number; shifted = h.shifted; base = h.base; sum = h.sum; direction = h.direction }
