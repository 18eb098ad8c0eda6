use Rattle.std.proofs.Common.{◌++◌, refl}
use Rattle.tables.proofs.Apart.{table}
use Rattle.names.specs.PhysTable.{places, unread_places}
use Rattle.names.proofs.PlaceNames.{places_named}
use Rattle.names.proofs.phys_names.phys_names_hold.Goals as goal

pub returns : goal.returns
unfolding places unread_places
returns c = record { apart = table (places ++ unread_places) refl; own = places_named }
