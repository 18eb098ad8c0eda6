use Rattle.names.specs.PhysTable.{places}
use Rattle.names.proofs.phys_names.read_name.Goals as goal

pub returns : goal.returns
unfolding places
returns c = c.name_of.ensures
