use Rattle.std.proofs.Common.{rules}
use Rattle.names.specs.PhysTable.{place_name}
use Rattle.names.proofs.phys_names.phys_name.Goals as goal

pub returns : goal.returns
unfolding place_name
returns c = search rules
