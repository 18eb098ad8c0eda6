-- The pairs that a table of the code holds.
use Rattle.std.specs.Prelude.{ℕ, List, [], ◌∷◌}
use Rattle.tables.specs.declared.Named.{Named}

abbrev pub entries : {A : Type 0} → List (Named A) → List (List ℕ × A)
entries [] = []
entries (e ∷ es) = (e.0.now, e.1) ∷ entries es
