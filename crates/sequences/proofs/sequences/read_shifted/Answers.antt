use Rattle.std.proofs.Common.{Some, None, refl, subst, rules}
use Rattle.sequences.specs.Parts.{AtSum, Tells}
use Rattle.sequences.proofs.Heads.{started}
use Rattle.sequences.proofs.Telling.{stage_break, stage_goes, stage_stops}
use Rattle.sequences.proofs.SequenceLaws.{shifted_stage, shifted_none, empty_none, shifted_base}
use Rattle.sequences.proofs.sequences.read_shifted.Goals as goal

pub returns-in_err-e : goal.returns-in_err-e
returns-in_err-e c = stage_break (shifted_stage c.args.head.number (started c.args.head).0) c.args.bytes.now c.args.at c.from_residual.result c.in_err-e.field-0.0 c.from_residual.ensures.1 c.in_err-e.ensures

pub returns-then-e-eq58 : goal.returns-then-e-eq58
returns-then-e-eq58 c =
    let h = c.args.head in
    stage_goes (shifted_stage h.number (started h).0) c.args.bytes.now c.args.at c.in_ok-e.e c.in_ok-e.ensures c.in_ok-e.e.value 58 refl c.if-e-eq58.true c.read_base.result (shifted_base h.number c.in_ok-e.e.value c.args.bytes.now c.in_ok-e.e.next c.read_base.result c.read_base.ensures)

pub returns-in_default : goal.returns-in_default
returns-in_default c =
    let h = c.args.head in
    stage_stops (shifted_stage h.number (started h).0) c.args.bytes.now c.args.at c.in_ok-e.e c.in_ok-e.ensures None (search rules) (empty_none h.number c.in_ok-e.e.mark c.if-e-eq58.false)

pub returns : goal.returns
returns c =
    let h = c.args.head in
    let r = subst (λ o. Tells (AtSum h.number o None) c.args.bytes.now c.in_ok-e.e.next c.read_sum.result) c.in-Some.is c.read_sum.ensures in
    stage_goes (shifted_stage h.number (started h).0) c.args.bytes.now c.args.at c.in_ok-e.e c.in_ok-e.ensures (Some c.in-Some.field-0) 59 c.in-Some.is c.if-e-ne59.false c.read_sum.result r

pub returns-then-e-ne59 : goal.returns-then-e-ne59
returns-then-e-ne59 c =
    let h = c.args.head in
    stage_stops (shifted_stage h.number (started h).0) c.args.bytes.now c.args.at c.in_ok-e.e c.in_ok-e.ensures (Some c.in-Some.field-0) c.in-Some.is (shifted_none h.number c.in-Some.field-0 c.in_ok-e.e.mark c.if-e-eq58.false c.if-e-ne59.true)
