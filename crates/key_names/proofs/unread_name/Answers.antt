use Rattle.key_names.specs.KeyTable.{unread_keys}
use Rattle.key_names.proofs.unread_name.Goals as goal

pub returns : goal.returns
unfolding unread_keys
returns c = c.name_of.ensures
