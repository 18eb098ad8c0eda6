use Rattle.std.proofs.Common.{rules}
use Rattle.tables.proofs.Beside.{beside_none}
use Rattle.input_types.specs.KeyMaps.{chars}
use Rattle.input_types.proofs.key_code.phys_of_char.Goals as goal

pub returns-in_default : goal.returns-in_default
returns-in_default c = beside_none chars c.args.c (search rules)
