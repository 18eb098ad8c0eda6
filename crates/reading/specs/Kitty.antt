-- The parts of the kitty dialect beside the sequences in their long form.
use Rattle.std.specs.Prelude.{◌≡◌, ℕ, ◌≤◌, List, [], ◌∷◌, ◌++◌, Some, None, decimal, Option, ◌==◌}
use Rattle.report.specs.declared.ending.Direction.TheVariants.{Press}
use Rattle.report.specs.declared.ending.Last.TheVariants.{Begin}
use Rattle.report.specs.Made.{parted}
use Rattle.report.specs.Meanings.{Meaning, Fields, answer}
use Rattle.sequences.specs.Parts.{choose}

-- the sequence with the short form
abbrev pub short_form : Fields
short_form = parted 1 None None 0 Press Begin []

-- after ESC [ ?
abbrev pub AtFlags : List ℕ → Meaning → Type 0
AtFlags s m = (n : ℕ) × (m ≡ answer n) × (n ≤ 31) × (s ≡ decimal n ++ (117 ∷ []))

abbrev pub after_flags : Option ℕ → ℕ → List ℕ → Meaning → Type 0
after_flags None b s m = ⊥
after_flags (Some n) b s m = choose (b == 117) ((m ≡ answer n) × (s ≡ [])) ⊥
