use Rattle.frame_reading.specs.declared.found.Rule.TheVariants.{Code}
use Rattle.frame_reading.proofs.BodyLaws.{number_chain}
use Rattle.frame_reading.proofs.FrameTelling.{quad_break, quad_goes}
use Rattle.frame_reading.proofs.found.Frame.parts.Goals as goal

pub returns-in_err-q : goal.returns-in_err-q
returns-in_err-q c = quad_break Code (number_chain c.args.self.now.count c.args.self.now.few) c.args.self.now.bytes.now c.args.at c.from_residual.result c.in_err-q.field-0.0 c.from_residual.ensures.1 c.in_err-q.ensures

pub returns : goal.returns
returns c = quad_goes Code (number_chain c.args.self.now.count c.args.self.now.few) c.args.self.now.bytes.now c.args.at c.in_ok-q.q c.in_ok-q.ensures c.shifted.result c.shifted.ensures
