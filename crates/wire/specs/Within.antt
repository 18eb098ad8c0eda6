-- A front of a list is no longer than the list.
use Rattle.std.specs.Prelude.{ℕ, ◌≤◌, List, length, take}
use Rattle.std.proofs.Common.{arith, length-take}
use Rattle.wire.specs.Moves.{ringed}

pub taken_within : (n : ℕ) (xs : List ℕ) → length (take n xs) ≤ length xs
taken_within n xs = rw length-take (omega arith)

pub ringed_within : (table : List ℕ) (head len : ℕ) → length (ringed table head len) ≤ 4096
ringed_within table head len = rw length-take (omega arith)
