use Rattle.std.proofs.Common.{Some, None, rules}
use Rattle.sequences.proofs.Heads.{started}
use Rattle.sequences.proofs.Telling.{stage_break, stage_goes, stage_stops}
use Rattle.sequences.proofs.SequenceLaws.{base_stage, base_none}
use Rattle.sequences.proofs.sequences.read_base.Goals as goal

pub returns-in_err-e : goal.returns-in_err-e
returns-in_err-e c =
    let h = c.args.head in
    let s = started h in
    stage_break (base_stage h.number h.shifted s.0 s.1) c.args.bytes.now c.args.at c.from_residual.result c.in_err-e.field-0.0 c.from_residual.ensures.1 c.in_err-e.ensures

pub returns-in_default : goal.returns-in_default
returns-in_default c =
    let h = c.args.head in
    let s = started h in
    stage_stops (base_stage h.number h.shifted s.0 s.1) c.args.bytes.now c.args.at c.in_ok-e.e c.in_ok-e.ensures None (search rules) (λ m s p. p)

pub returns : goal.returns
returns c =
    let h = c.args.head in
    let s = started h in
    stage_goes (base_stage h.number h.shifted s.0 s.1) c.args.bytes.now c.args.at c.in_ok-e.e c.in_ok-e.ensures (Some c.in-Some.b) 59 c.in-Some.is c.if-e-ne59.false c.read_sum.result c.read_sum.ensures

pub returns-then-e-ne59 : goal.returns-then-e-ne59
returns-then-e-ne59 c =
    let h = c.args.head in
    let s = started h in
    stage_stops (base_stage h.number h.shifted s.0 s.1) c.args.bytes.now c.args.at c.in_ok-e.e c.in_ok-e.ensures (Some c.in-Some.b) c.in-Some.is (base_none h.number h.shifted c.in-Some.b c.in_ok-e.e.mark c.if-e-ne59.true)
