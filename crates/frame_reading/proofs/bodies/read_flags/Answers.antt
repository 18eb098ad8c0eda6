use Rattle.std.proofs.Common.{ℕ, ◌+◌}
use Rattle.report.specs.Meanings.{means}
use Rattle.pieces.specs.declared.found.Seen.{Seen}
use Rattle.pieces.proofs.Chains.{chain_break}
use Rattle.frame_reading.proofs.BodyLaws.{flags_chain}
use Rattle.frame_reading.proofs.bodies.read_flags.Goals as goal

pub returns-in_err-n : goal.returns-in_err-n
returns-in_err-n c = chain_break flags_chain (λ (b : ℕ). b) (λ _. c.args.at + 1) (λ (x : Seen). means x.report) (λ x. x.length) c.args.bytes.now c.args.at c.from_residual.result c.in_err-n.field-0.0 c.from_residual.ensures.1 c.in_err-n.ensures
