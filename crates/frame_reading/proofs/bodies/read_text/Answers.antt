use Rattle.report.specs.Meanings.{means}
use Rattle.pieces.specs.declared.found.Seen.{Seen}
use Rattle.pieces.proofs.Chains.{chain_break}
use Rattle.frame_reading.specs.declared.found.Quad.{Quad}
use Rattle.frame_reading.proofs.BodyLaws.{text_chain}
use Rattle.frame_reading.proofs.bodies.read_text.Goals as goal

pub returns-in_err-q : goal.returns-in_err-q
returns-in_err-q c = chain_break text_chain (λ (q : Quad). q.value) (λ q. q.next) (λ (x : Seen). means x.report) (λ x. x.length) c.args.bytes.now c.args.at c.from_residual.result c.in_err-q.field-0.0 c.from_residual.ensures.1 c.in_err-q.ensures
