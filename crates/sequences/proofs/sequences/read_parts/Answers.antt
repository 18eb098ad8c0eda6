use Rattle.std.proofs.Common.{Some, None, arith, rules}
use Rattle.sequences.proofs.Telling.{stage_break, stage_goes, stage_stops}
use Rattle.sequences.proofs.SequenceLaws.{number_stage, number_none}
use Rattle.sequences.proofs.sequences.read_parts.Goals as goal

pub returns-in_err-e : goal.returns-in_err-e
returns-in_err-e c = stage_break number_stage c.args.bytes.now c.args.at c.from_residual.result c.in_err-e.field-0.0 c.from_residual.ensures.1 c.in_err-e.ensures

pub returns-in_default : goal.returns-in_default
returns-in_default c = stage_stops number_stage c.args.bytes.now c.args.at c.in_ok-e.e c.in_ok-e.ensures None (search rules) (λ m s p. p)

pub returns-in-58 : goal.returns-in-58
returns-in-58 c = stage_goes number_stage c.args.bytes.now c.args.at c.in_ok-e.e c.in_ok-e.ensures (Some c.in-Some.number) 58 c.in-Some.is c.in-58.is c.read_shifted.result c.read_shifted.ensures

pub returns-in-59 : goal.returns-in-59
returns-in-59 c = stage_goes number_stage c.args.bytes.now c.args.at c.in_ok-e.e c.in_ok-e.ensures (Some c.in-Some.number) 59 c.in-Some.is c.in-59.is c.read_sum.result c.read_sum.ensures

pub returns-in_default-mark : goal.returns-in_default-mark
returns-in_default-mark c = stage_stops number_stage c.args.bytes.now c.args.at c.in_ok-e.e c.in_ok-e.ensures (Some c.in-Some.number) c.in-Some.is (number_none c.in-Some.number c.in_ok-e.e.mark (λ z. omega arith) (λ z. omega arith))
