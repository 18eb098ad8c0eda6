use Rattle.std.proofs.Common.{◌≡◌, drop}
use Rattle.tables.specs.Entries.{entries}
use Rattle.tables.specs.Tables.{name_for}
use Rattle.names.proofs.variants.name_of.Given as goal

abbrev pub invariant-loop-e : goal.invariant-loop-e
invariant-loop-e g l = name_for g.T.Variant.variant (entries l.table) (g.T.Variant.variant l.value) ≡ name_for g.T.Variant.variant (entries (drop l.e-index l.table)) (g.T.Variant.variant l.value)
