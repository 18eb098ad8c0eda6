use Rattle.sequences.specs.Leads.{lead}
use Rattle.sequences.proofs.Heads.{started}
use Rattle.std.proofs.Common.{◌+◌, false, sym, ◌∙◌}
use Rattle.sequences.proofs.Telling.{octet_break, octet_goes, octet_stops, tells_same}
use Rattle.report.specs.EndingLaws.{last_same}
use Rattle.frame_reading.specs.Bodies.{AtCount, after_last, Ends}
use Rattle.frame_reading.proofs.BodyLaws.{last_chain, count_last, last_count}
use Rattle.frame_reading.proofs.found.Frame.last.Goals as goal

pub returns-in_err-b : goal.returns-in_err-b
returns-in_err-b c = octet_break (last_chain c.args.self.now.count c.args.self.now.few (lead c.args.head) (started c.args.head)) c.args.self.now.bytes.now c.args.at c.from_residual.result c.in_err-b.field-0.0 c.from_residual.ensures.1 c.in_err-b.ensures

pub returns-in_default : goal.returns-in_default
returns-in_default c = octet_stops (last_chain c.args.self.now.count c.args.self.now.few (lead c.args.head) (started c.args.head)) c.args.self.now.bytes.now c.args.at c.in_ok-b.b c.in_ok-b.ensures (λ m s q. c.in_default.ensures m.last q.2)

pub returns-then-ends : goal.returns-then-ends
returns-then-ends c =
    let k = c.args.self.now.count in
    let h = lead c.args.head in
    let b = c.in_ok-b.b in
    let l = c.in-Ok.last in
    let e = c.in-Ok.ensures in
    let r = tells_same (AtCount k h l) (after_last k h b) (count_last k h b l e) (last_count k h b l e) c.args.self.now.bytes.now (c.args.at + 1) c.count.result c.count.ensures in
    octet_goes (last_chain k c.args.self.now.few h (started c.args.head)) c.args.self.now.bytes.now c.args.at b c.in_ok-b.ensures c.count.result r

pub returns-else-ends : goal.returns-else-ends
returns-else-ends c =
    let l = c.in-Ok.last in
    let none : Ends (lead c.args.head) l c.args.self.now.count false = c.if-ends.ensures in
    octet_stops (last_chain c.args.self.now.count c.args.self.now.few (lead c.args.head) (started c.args.head)) c.args.self.now.bytes.now c.args.at c.in_ok-b.b c.in_ok-b.ensures (λ m s q. none m q.0 q.1 (last_same m.last l (q.2 ∙ sym c.in-Ok.ensures)))
