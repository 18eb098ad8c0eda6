use Rattle.std.proofs.Common.{rules}
use Rattle.tables.proofs.Beside.{beside_none}
use Rattle.event_numbers.specs.Numbered.{keys}
use Rattle.event_numbers.proofs.numbered.plain_key.Goals as goal

pub returns-in_default : goal.returns-in_default
returns-in_default c = beside_none keys c.args.number (search rules)
