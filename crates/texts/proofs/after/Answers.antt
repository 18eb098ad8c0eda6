use Rattle.texts.proofs.Beginnings.{stripped}
use Rattle.texts.proofs.after.Goals as goal

pub returns : goal.returns
returns c = stripped c.args.beginning.now c.args.text.now c.strip_prefix.result c.strip_prefix.ensures.cases
