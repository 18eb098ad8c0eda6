-- What the result of a reader says about the bytes from a place on.
use Rattle.std.specs.Prelude.{ℕ, ◌≤◌, List, length, drop, Ok, Err, Result}
use Rattle.pieces.specs.declared.found.Fault.{Fault}
use Rattle.pieces.specs.declared.found.Fault.TheVariants.{Short, Unknown}
use Rattle.pieces.specs.Languages.{Takes, whole, part, nothing}

-- of what the reader answers, `value` is the message and `next` the place after it
abbrev pub Says : {A M : Type 0} → (List ℕ → M → Type 0) → (A → M) → (A → ℕ) → List ℕ → ℕ → Result A Fault → Type 0
Says L value next given at (Ok a) = Takes L (drop at given) (whole (value a) (drop (next a) given)) × (next a ≤ length given)
Says L value next given at (Err Short) = Takes L (drop at given) part
Says L value next given at (Err Unknown) = Takes L (drop at given) nothing
