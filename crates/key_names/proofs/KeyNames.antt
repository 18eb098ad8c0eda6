-- Each key that holds nothing has its own name: one computed test over the tables.
use Rattle.std.proofs.Common.{◌≡◌, ℕ, Bool, true, ◌&&◌, List, [], ◌∷◌, ◌++◌, refl}
use Rattle.std.specs.List.{AllByRecursion}
use Rattle.std.specs.Str.{bytes_eq}
use Rattle.std.proofs.lemmas.Slice.Eq.{bytes_eq-Decides}
use Rattle.std.proofs.lemmas.Bool.{and_parts}
use Rattle.input_types.specs.declared.key_code.KeyCode.{KeyCode}
use Rattle.key_names.specs.KeyTable.{plain_keys, named_chars, keys, unread_keys, plain_name, KeysNamed}

abbrev own : List (List ℕ × KeyCode) → Bool
own [] = true
own (e ∷ es) = bytes_eq (plain_name e.1) e.0 && own es

each : (es : List (List ℕ × KeyCode)) → own es ≡ true → AllByRecursion (λ e. plain_name e.1 ≡ e.0) es
each [] h = tt
each (e ∷ es) h = let p = and_parts (bytes_eq (plain_name e.1) e.0) (own es) h in ((bytes_eq-Decides (plain_name e.1) e.0).0 p.0, each es p.1)

pub keys_named : KeysNamed
unfolding plain_keys named_chars keys unread_keys plain_name
keys_named = each (plain_keys ++ unread_keys) refl
