use Rattle.sequences.specs.Leads.{lead}
use Rattle.sequences.proofs.Heads.{started}
use Rattle.sequences.proofs.SequenceLaws.{event_chain}
use Rattle.sequences.proofs.Telling.{octet_break}
use Rattle.sequences.proofs.sequences.read_event.Goals as goal

pub returns-in_err-digit : goal.returns-in_err-digit
returns-in_err-digit c = octet_break (event_chain (lead c.args.head) (started c.args.head)) c.args.bytes.now c.args.at c.from_residual.result c.in_err-digit.field-0.0 c.from_residual.ensures.1 c.in_err-digit.ensures
