use Rattle.std.proofs.Common.{rules}
use Rattle.texts.proofs.Fronts.{told}
use Rattle.texts.proofs.checked.Goals as goal

pub returns : goal.returns
returns c = told c.args.bytes.now c.from_utf8.result c.map_err.result c.from_utf8.ensures.cases (search rules)
