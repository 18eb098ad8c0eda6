-- What stands behind a place of a table is no more than the table.
use Rattle.std.specs.Prelude.{◌≡◌, ℕ, ◌≤◌, List, length, drop}
use Rattle.std.proofs.Common.{arith, length-drop}

pub behind_within : (start : ℕ) (table : List ℕ) → length table ≡ 64 → length (drop start table) ≤ 64
behind_within start table sized = rw length-drop (omega arith)
