use Rattle.std.proofs.Common.{Some, None, rules}
use Rattle.report.specs.Meanings.{means}
use Rattle.pieces.proofs.Stages.{stage_break, stage_stops}
use Rattle.pieces.specs.declared.found.Seen.{Seen}
use Rattle.reading.proofs.KittyReading.{flags_stage, flags_none}
use Rattle.reading.proofs.kitty.read_flags.Goals as goal

pub returns-in_err-e : goal.returns-in_err-e
returns-in_err-e c = stage_break flags_stage (λ (x : Seen). means x.report) (λ x. x.length) c.args.bytes.now c.args.at c.from_residual.result c.in_err-e.field-0.0 c.from_residual.ensures.1 c.in_err-e.ensures

pub returns-in_default : goal.returns-in_default
returns-in_default c = stage_stops flags_stage (λ (x : Seen). means x.report) (λ x. x.length) c.args.bytes.now c.args.at c.in_ok-e.e c.in_ok-e.ensures None (search rules) (λ m s p. p)

pub returns-then-e-ne117 : goal.returns-then-e-ne117
returns-then-e-ne117 c = stage_stops flags_stage (λ (x : Seen). means x.report) (λ x. x.length) c.args.bytes.now c.args.at c.in_ok-e.e c.in_ok-e.ensures (Some c.in-Some.n) c.in-Some.is (flags_none c.in-Some.n c.in_ok-e.e.mark c.if-e-ne117.true)
