use Rattle.std.proofs.Common.{◌≡◌, drop}
use Rattle.tables.specs.Entries.{entries}
use Rattle.tables.specs.Tables.{bears}
use Rattle.tables.proofs.find.Given as goal

abbrev pub invariant-loop-e : goal.invariant-loop-e
invariant-loop-e g l = bears (entries l.table) l.name ≡ bears (entries (drop l.e-index l.table)) l.name
