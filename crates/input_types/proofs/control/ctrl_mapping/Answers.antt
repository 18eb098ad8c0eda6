use Rattle.std.proofs.Common.{rules}
use Rattle.tables.proofs.Beside.{beside_none}
use Rattle.input_types.specs.Controls.{controls}
use Rattle.input_types.proofs.control.ctrl_mapping.Goals as goal

pub returns-in_default : goal.returns-in_default
returns-in_default c = beside_none controls c.args.c (search rules)
