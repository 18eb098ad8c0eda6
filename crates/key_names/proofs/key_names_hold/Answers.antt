use Rattle.std.proofs.Common.{◌++◌, refl}
use Rattle.tables.proofs.Apart.{table}
use Rattle.key_names.specs.KeyTable.{plain_keys, named_chars, keys, unread_keys}
use Rattle.key_names.proofs.KeyNames.{keys_named}
use Rattle.key_names.proofs.key_names_hold.Goals as goal

pub returns : goal.returns
unfolding keys plain_keys named_chars unread_keys
returns c = record { apart = table (keys ++ unread_keys) refl; own = keys_named }
