-- Reports one after another.
use Rattle.std.specs.Prelude.{◌≡◌, ℕ, List, [], ◌∷◌}
use Rattle.std.specs.List.{flat_map}
use Rattle.report.specs.Meanings.{Meaning, Valid, Clear}

abbrev pub AllClear : List Meaning → Type 0
AllClear [] = Unit {0}
AllClear (m ∷ ms) = Valid m × Clear m × AllClear ms

-- the bytes of clear reports, one after another, tell the reports
abbrev pub Tells : (Meaning → List ℕ) → Type 0
Tells bytes = (ms ns : List Meaning) → AllClear ms → AllClear ns → flat_map bytes ms ≡ flat_map bytes ns → ms ≡ ns
