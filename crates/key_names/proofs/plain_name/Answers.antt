use Rattle.std.proofs.Common.{rules}
use Rattle.key_names.specs.KeyTable.{plain_name}
use Rattle.key_names.proofs.plain_name.Goals as goal

pub returns : goal.returns
unfolding plain_name
returns c = search rules
