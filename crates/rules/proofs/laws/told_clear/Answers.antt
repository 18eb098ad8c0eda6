use Rattle.rules.proofs.Clearness.{told_clear}
use Rattle.rules.proofs.laws.told_clear.Goals as goal

pub returns : goal.returns
returns c = told_clear
