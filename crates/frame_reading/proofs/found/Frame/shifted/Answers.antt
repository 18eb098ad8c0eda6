use Rattle.sequences.specs.Leads.{lead}
use Rattle.sequences.proofs.Heads.{started}
use Rattle.sequences.specs.Parts.{headed}
use Rattle.sequences.proofs.Telling.{tells_same}
use Rattle.frame_reading.specs.Bodies.{AtBase, after_shifted}
use Rattle.frame_reading.specs.declared.found.Rule.TheVariants.{Optional}
use Rattle.frame_reading.proofs.BodyLaws.{shifted_chain, shifted_base, base_shifted, coded_of}
use Rattle.frame_reading.proofs.FrameTelling.{quad_break, quad_goes}
use Rattle.frame_reading.proofs.found.Frame.shifted.Goals as goal

pub returns-in_err-q : goal.returns-in_err-q
returns-in_err-q c = quad_break Optional (shifted_chain c.args.self.now.count c.args.self.now.few (lead c.args.head) (started c.args.head)) c.args.self.now.bytes.now c.args.at c.from_residual.result c.in_err-q.field-0.0 c.from_residual.ensures.1 c.in_err-q.ensures

pub returns : goal.returns
returns c =
    let k = c.args.self.now.count in
    let h = lead c.args.head in
    let q = c.in_ok-q.q in
    let o = c.code_of-shifted.result in
    let e = coded_of q.value o c.in_ok-q.ensures.0.1.0 c.code_of-shifted.ensures in
    let r = tells_same (AtBase k (headed h.number o h.base h.sum h.direction)) (after_shifted k h q.value) (shifted_base k h q.value o e.0 e.1) (base_shifted k h q.value o e.0 e.1) c.args.self.now.bytes.now q.next c.base.result c.base.ensures in
    quad_goes Optional (shifted_chain k c.args.self.now.few h (started c.args.head)) c.args.self.now.bytes.now c.args.at q c.in_ok-q.ensures c.base.result r
