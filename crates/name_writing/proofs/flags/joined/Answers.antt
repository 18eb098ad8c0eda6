use Rattle.std.proofs.Common.{sym, ◌∙◌, arith}
use Rattle.name_writing.proofs.Labels.{step, room_step, end}
use Rattle.name_writing.proofs.flags.joined.Goals as goal
use Rattle.name_writing.proofs.flags.joined.Goals.{then-bits-e, else-bits-e}

pub push_label-requires : goal.push_label-requires
push_label-requires c = omega (arith, room_step c.args.table.now c.loop-e.e-index c.loop-e-test.true, c.loop-e.invariant.1)

pub loop-e-preserved : goal.loop-e-preserved
loop-e-preserved c =
    let t = c.args.table.now in
    let i = c.loop-e.e-index in
    let s = step t i c.args.bits c.loop-e.line.bytes c.loop-e-test.true in
    let m = room_step t i c.loop-e-test.true in
    elim c.if-bits-e.branch [
      | then-bits-e w ↦ rw w.line-is (rw w.push_label.ensures.text (grind (arith, s, w.if-bits-e.true, c.loop-e.invariant.0)), omega (arith, m, w.push_label.ensures.len, c.loop-e.invariant.1))
      | else-bits-e w ↦ rw w.line-is (grind (arith, s, w.if-bits-e.false, c.loop-e.invariant.0), omega (arith, m, c.loop-e.invariant.1))
    ]

pub returns : goal.returns
returns c = sym (end c.args.table.now c.loop-e.e-index c.args.bits c.loop-e.line.bytes c.loop-e-test.false) ∙ c.loop-e.invariant.0
