use Rattle.request.proofs.Strings.{hears}
use Rattle.request.proofs.Reader.feed.Goals as goal

pub returns : goal.returns
returns c = record { step = c.step.ensures; hears = hears _ _ _ _ c.step.ensures }
