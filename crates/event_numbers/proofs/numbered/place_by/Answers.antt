use Rattle.std.proofs.Common.{rules}
use Rattle.tables.proofs.Beside.{beside_none}
use Rattle.event_numbers.specs.Numbered.{places}
use Rattle.event_numbers.proofs.numbered.place_by.Goals as goal

pub returns-in_default : goal.returns-in_default
returns-in_default c = beside_none places c.args.number (search rules)
