use Rattle.std.proofs.Common.{sym, ◌∙◌}
use Rattle.tables.proofs.Entries.{past_value, here_value, none_value}
use Rattle.names.proofs.variants.name_of.Goals as goal

pub loop-e-preserved : goal.loop-e-preserved
loop-e-preserved g c =
    c.loop-e.invariant ∙ past_value _ _ c.e-item.result c.loop-e-test.true c.e-item.is _ _ _ _ c.variant_number.ensures c.variant_number-in-loop-e.ensures c.if-variant_number.false

pub returns-then-variant_number : goal.returns-then-variant_number
returns-then-variant_number g c =
    sym (c.loop-e.invariant ∙ here_value _ _ c.e-item.result c.loop-e-test.true c.e-item.is _ _ _ _ c.variant_number.ensures c.variant_number-in-loop-e.ensures c.if-variant_number.true)

pub returns : goal.returns
returns g c = sym (c.loop-e.invariant ∙ none_value c.args.table.now c.loop-e.e-index c.loop-e-test.false _ _)
