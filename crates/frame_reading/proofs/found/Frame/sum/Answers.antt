use Rattle.sequences.specs.Leads.{lead}
use Rattle.sequences.proofs.Heads.{started}
use Rattle.sequences.proofs.Telling.{octet_break, octet_goes}
use Rattle.frame_reading.proofs.BodyLaws.{sum_chain}
use Rattle.frame_reading.proofs.found.Frame.sum.Goals as goal

pub returns-in_err-sum : goal.returns-in_err-sum
returns-in_err-sum c = octet_break (sum_chain c.args.self.now.count c.args.self.now.few (lead c.args.head) (started c.args.head)) c.args.self.now.bytes.now c.args.at c.from_residual.result c.in_err-sum.field-0.0 c.from_residual.ensures.1 c.in_err-sum.ensures

pub returns : goal.returns
returns c = octet_goes (sum_chain c.args.self.now.count c.args.self.now.few (lead c.args.head) (started c.args.head)) c.args.self.now.bytes.now c.args.at c.in_ok-sum.sum c.in_ok-sum.ensures c.direction.result c.direction.ensures
