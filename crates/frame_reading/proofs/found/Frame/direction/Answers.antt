use Rattle.sequences.specs.Leads.{lead}
use Rattle.sequences.proofs.Heads.{started}
use Rattle.std.proofs.Common.{◌+◌}
use Rattle.sequences.specs.Parts.{headed}
use Rattle.sequences.proofs.Telling.{octet_break, octet_goes, octet_stops, tells_same}
use Rattle.frame_reading.specs.Bodies.{AtLast, after_direction}
use Rattle.frame_reading.proofs.BodyLaws.{direction_chain, direction_last, last_direction}
use Rattle.frame_reading.proofs.found.Frame.direction.Goals as goal

pub returns-in_err-b : goal.returns-in_err-b
returns-in_err-b c = octet_break (direction_chain c.args.self.now.count c.args.self.now.few (lead c.args.head) (started c.args.head)) c.args.self.now.bytes.now c.args.at c.from_residual.result c.in_err-b.field-0.0 c.from_residual.ensures.1 c.in_err-b.ensures

pub returns-in_default : goal.returns-in_default
returns-in_default c = octet_stops (direction_chain c.args.self.now.count c.args.self.now.few (lead c.args.head) (started c.args.head)) c.args.self.now.bytes.now c.args.at c.in_ok-b.b c.in_ok-b.ensures (λ m s q. c.in_default.ensures m.direction q.5)

pub returns : goal.returns
returns c =
    let k = c.args.self.now.count in
    let h = lead c.args.head in
    let b = c.in_ok-b.b in
    let d = c.in-Ok.direction in
    let e = c.in-Ok.ensures in
    let r = tells_same (AtLast k (headed h.number h.shifted h.base h.sum d)) (after_direction k h b) (direction_last k h b d e) (last_direction k h b d e) c.args.self.now.bytes.now (c.args.at + 1) c.last.result c.last.ensures in
    octet_goes (direction_chain k c.args.self.now.few h (started c.args.head)) c.args.self.now.bytes.now c.args.at b c.in_ok-b.ensures c.last.result r
