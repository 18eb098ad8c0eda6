use Rattle.names.specs.PhysTable.{unread_places}
use Rattle.names.proofs.phys_names.unread_name.Goals as goal

pub returns : goal.returns
unfolding unread_places
returns c = c.name_of.ensures
