use Rattle.std.proofs.Common.{◌-◌, Some, None, refl, rules}
use Rattle.report.specs.declared.ending.Direction.TheVariants.{Press}
use Rattle.sequences.specs.Parts.{AtClosing, after_sum, headed}
use Rattle.sequences.proofs.Heads.{started}
use Rattle.sequences.proofs.Telling.{stage_break, stage_goes, stage_stops, tells_same}
use Rattle.sequences.proofs.SequenceLaws.{sum_stage, sum_press, press_sum}
use Rattle.sequences.proofs.sequences.read_sum.Goals as goal

pub returns-in_err-e : goal.returns-in_err-e
returns-in_err-e c =
    let h = c.args.head in
    let s = started h in
    stage_break (sum_stage h.number h.shifted h.base s.0 s.1 s.2) c.args.bytes.now c.args.at c.from_residual.result c.in_err-e.field-0.0 c.from_residual.ensures.1 c.in_err-e.ensures

pub returns-in_default : goal.returns-in_default
returns-in_default c =
    let h = c.args.head in
    let s = started h in
    stage_stops (sum_stage h.number h.shifted h.base s.0 s.1 s.2) c.args.bytes.now c.args.at c.in_ok-e.e c.in_ok-e.ensures None (search rules) (λ m s p. p)

pub returns-then-e-eq58 : goal.returns-then-e-eq58
returns-then-e-eq58 c =
    let h = c.args.head in
    let s = started h in
    stage_goes (sum_stage h.number h.shifted h.base s.0 s.1 s.2) c.args.bytes.now c.args.at c.in_ok-e.e c.in_ok-e.ensures (Some c.in-Some.k) 58 c.in-Some.is c.if-e-eq58.true c.read_event.result c.read_event.ensures

pub returns-else-e-eq58 : goal.returns-else-e-eq58
returns-else-e-eq58 c =
    let h = c.args.head in
    let s = started h in
    let n = h.number in
    let o = h.shifted in
    let p = h.base in
    let k = c.in-Some.k in
    let b = c.in_ok-e.e.mark in
    let r = tells_same (AtClosing (headed n o p (k - 1) Press) b) (after_sum n o p (Some k) b) (sum_press n o p k b c.if-e-eq58.false) (press_sum n o p k b c.if-e-eq58.false) c.args.bytes.now c.in_ok-e.e.next c.read_closing.result c.read_closing.ensures in
    stage_goes (sum_stage n o p s.0 s.1 s.2) c.args.bytes.now c.args.at c.in_ok-e.e c.in_ok-e.ensures (Some k) b c.in-Some.is refl c.read_closing.result r
