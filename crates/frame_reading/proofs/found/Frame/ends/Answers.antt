use Rattle.sequences.specs.Leads.{lead}
use Rattle.sequences.proofs.Heads.{started}
use Rattle.std.proofs.Common.{replicate, sym, subst}
use Rattle.report.specs.Meanings.{Sound}
use Rattle.sequences.specs.Parts.{filled}
use Rattle.frame_reading.proofs.BodyLaws.{zeros, zeros_good}
use Rattle.frame_reading.proofs.found.Frame.ends.Goals as goal

pub returns-in-U : goal.returns-in-U
unfolding zeros
returns-in-U c = subst (λ l. Sound (filled (lead c.args.head) l (replicate c.args.self.now.count 0))) (sym c.in-U.is) (zeros_good (lead c.args.head) c.args.self.now.count (started c.args.head) c.args.self.now.few).0
