use Rattle.std.proofs.Common.{sym, ◌∙◌, rules}
use Rattle.tables.proofs.Entries.{past, here, none}
use Rattle.tables.proofs.find.Goals as goal

pub loop-e-preserved : goal.loop-e-preserved
loop-e-preserved g c =
    c.loop-e.invariant ∙ past _ _ c.e-item.result c.loop-e-test.true c.e-item.is _ c.eq.result c.eq.ensures c.if-eq.false

pub returns-then-eq : goal.returns-then-eq
returns-then-eq g c =
    sym (c.loop-e.invariant ∙ here _ _ c.e-item.result c.loop-e-test.true c.e-item.is _ c.eq.result c.eq.ensures c.if-eq.true)

pub returns : goal.returns
returns g c = sym (c.loop-e.invariant ∙ none c.args.table.now c.loop-e.e-index (search rules) c.args.name.now)
