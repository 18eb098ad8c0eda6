use Rattle.sequences.specs.Leads.{lead}
use Rattle.std.proofs.Common.{◌+◌, []}
use Rattle.sequences.proofs.Telling.{octet_break, octet_goes, octet_stops, tells_same}
use Rattle.frame_reading.specs.Bodies.{AtCodes, after_count}
use Rattle.frame_reading.proofs.BodyLaws.{count_chain}
use Rattle.frame_reading.proofs.found.Frame.count.Goals as goal

pub returns-in_err-b : goal.returns-in_err-b
returns-in_err-b c = octet_break (count_chain c.args.self.now.count (lead c.args.head) c.args.last c.requires) c.args.self.now.bytes.now c.args.at c.from_residual.result c.in_err-b.field-0.0 c.from_residual.ensures.1 c.in_err-b.ensures

pub returns-then-b-self : goal.returns-then-b-self
returns-then-b-self c =
    let k = c.args.self.now.count in
    let h = lead c.args.head in
    let l = c.args.last in
    let b = c.in_ok-b.b in
    let r = tells_same (AtCodes k h l []) (after_count k h l b) (λ m s q. (c.if-b-self.true, q)) (λ m s q. q.1) c.args.self.now.bytes.now (c.args.at + 1) c.codes.result c.codes.ensures in
    octet_goes (count_chain k h l c.requires) c.args.self.now.bytes.now c.args.at b c.in_ok-b.ensures c.codes.result r

pub returns-else-b-self : goal.returns-else-b-self
returns-else-b-self c = octet_stops (count_chain c.args.self.now.count (lead c.args.head) c.args.last c.requires) c.args.self.now.bytes.now c.args.at c.in_ok-b.b c.in_ok-b.ensures (λ m s q. c.if-b-self.false q.0)
