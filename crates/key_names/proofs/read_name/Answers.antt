use Rattle.key_names.specs.KeyTable.{plain_keys, named_chars, keys}
use Rattle.key_names.proofs.read_name.Goals as goal

pub returns : goal.returns
unfolding keys plain_keys named_chars
returns c = c.name_of.ensures
