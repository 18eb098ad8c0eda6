-- What writing a name to a buffer answers, and what the buffer then holds.
use Rattle.std.specs.Prelude.{ℕ, cond, List, ◌++◌, length, drop, Ok, Err, Result, nat_le}
use Rattle.names.specs.declared.fault.NameFault.{NameFault}
use Rattle.names.specs.declared.fault.NameFault.TheVariants.{NoRoom}

-- the name stands at the front and the rest stays; where it does not fit, all stays
abbrev pub written : List ℕ → List ℕ → Result ℕ NameFault × List ℕ
written name buffer = cond (nat_le (length name) (length buffer)) (Ok (length name), name ++ drop (length name) buffer) (Err NoRoom, buffer)

-- where there is no name, all stays
abbrev pub to_buffer : Result (List ℕ) NameFault → List ℕ → Result ℕ NameFault × List ℕ
to_buffer (Ok name) buffer = written name buffer
to_buffer (Err fault) buffer = (Err fault, buffer)
