use Rattle.rows.proofs.Worked.{worked}
use Rattle.rows.proofs.rows_stand.Goals as goal

pub returns : goal.returns
returns c = worked
