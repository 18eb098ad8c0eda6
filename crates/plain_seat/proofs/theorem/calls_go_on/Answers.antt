use Rattle.plain_seat.proofs.Onward.{goes_on}
use Rattle.plain_seat.proofs.theorem.calls_go_on.Goals as goal

pub returns : goal.returns
returns c = goes_on
