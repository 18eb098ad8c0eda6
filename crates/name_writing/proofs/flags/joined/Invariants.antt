use Rattle.std.proofs.Common.{◌≡◌, ◌+◌, ◌≤◌, [], length, drop}
use Rattle.tables.specs.Entries.{entries}
use Rattle.name_writing.specs.Labels.{labels, room}
use Rattle.name_writing.proofs.flags.joined.Given as goal

abbrev pub invariant-loop-e : goal.invariant-loop-e
invariant-loop-e l =
    (labels (entries (drop l.e-index l.table)) l.bits l.line.bytes ≡ labels (entries l.table) l.bits [])
    × (length l.line.bytes + room (entries (drop l.e-index l.table)) ≤ 128)
