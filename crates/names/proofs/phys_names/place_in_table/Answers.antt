use Rattle.names.specs.PhysTable.{places}
use Rattle.names.proofs.phys_names.place_in_table.Goals as goal

pub returns : goal.returns
unfolding places
returns c = c.find.ensures
