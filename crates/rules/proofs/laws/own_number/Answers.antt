use Rattle.rules.proofs.Numbers.{own_number}
use Rattle.rules.proofs.laws.own_number.Goals as goal

pub returns : goal.returns
returns c = own_number
