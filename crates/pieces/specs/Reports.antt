-- The clear reports of a dialect, and what is found of them.
use Rattle.std.specs.Prelude.{◌≡◌, ℕ, List, Result}
use Rattle.report.specs.Meanings.{Meaning, Valid, Clear, means}
use Rattle.pieces.specs.declared.found.Fault.{Fault}
use Rattle.pieces.specs.declared.found.Seen.{Seen}
use Rattle.pieces.specs.Says.{Says}

-- the reports that a reader takes
abbrev pub Readable : Meaning → Type 0
Readable m = Valid m × Clear m

-- the clear reports of a dialect as a language
abbrev pub Spoken : (Meaning → List ℕ) → List ℕ → Meaning → Type 0
Spoken bytes s m = Readable m × (s ≡ bytes m)

abbrev pub Sees : (List ℕ → Meaning → Type 0) → List ℕ → ℕ → Result Seen Fault → Type 0
Sees L given at r = Says L (λ x. means x.report) (λ x. x.length) given at r
