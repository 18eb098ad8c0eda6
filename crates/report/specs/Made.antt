-- Sequences by their parts.
use Rattle.std.specs.Prelude.{ℕ, List, [], None, Option}
use Rattle.report.specs.declared.ending.Direction.{Direction}
use Rattle.report.specs.declared.ending.Last.{Last}
use Rattle.report.specs.declared.ending.Last.TheVariants.{U}
use Rattle.report.specs.Meanings.{Fields, Meaning, sequence}

abbrev pub parted : ℕ → Option ℕ → Option ℕ → ℕ → Direction → Last → List ℕ → Fields
parted n shifted base sum d last typed = record { number = n; shifted = shifted; base = base; sum = sum; direction = d; last = last; text = typed }

-- a number and a final, and no codes or text
abbrev pub bare_key : ℕ → Last → ℕ → Direction → Meaning
bare_key n last sum d = sequence (parted n None None sum d last [])

-- the final u, with what it can bear
abbrev pub full_key : ℕ → Option ℕ → Option ℕ → ℕ → Direction → List ℕ → Meaning
full_key n shifted base sum d typed = sequence (parted n shifted base sum d U typed)
