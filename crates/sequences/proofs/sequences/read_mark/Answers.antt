use Rattle.sequences.specs.Leads.{lead}
use Rattle.sequences.proofs.Heads.{started}
use Rattle.sequences.proofs.SequenceLaws.{mark_chain}
use Rattle.sequences.proofs.Telling.{octet_break, octet_goes}
use Rattle.sequences.proofs.sequences.read_mark.Goals as goal

pub returns-in_err-mark : goal.returns-in_err-mark
returns-in_err-mark c = octet_break (mark_chain (lead c.args.head) (started c.args.head)) c.args.bytes.now c.args.at c.from_residual.result c.in_err-mark.field-0.0 c.from_residual.ensures.1 c.in_err-mark.ensures

pub returns : goal.returns
returns c = octet_goes (mark_chain (lead c.args.head) (started c.args.head)) c.args.bytes.now c.args.at c.in_ok-mark.mark c.in_ok-mark.ensures c.read_closing.result c.read_closing.ensures
