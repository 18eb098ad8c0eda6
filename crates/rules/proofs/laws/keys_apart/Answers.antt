use Rattle.rules.proofs.Backward.{fixed_tell, keys_apart}
use Rattle.rules.proofs.laws.keys_apart.Goals as goal

pub returns : goal.returns
returns c = record { sequences = fixed_tell; apart = keys_apart }
