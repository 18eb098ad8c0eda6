-- What a reader of a dialect answers for given bytes, and what the row for the text then holds.
use Rattle.std.specs.Prelude.{◌≡◌, ℕ, ◌<◌, ◌≤◌, List, [], ◌++◌, length, drop, Ok, Err, Result}
use Rattle.report.specs.Meanings.{Meaning, means, text, old, answer, sequence}
use Rattle.pieces.specs.declared.found.Seen.{Seen}
use Rattle.pieces.specs.Reports.{Readable}
use Rattle.reading.specs.declared.faults.ReadFault.{ReadFault}
use Rattle.reading.specs.declared.faults.ReadFault.TheVariants.{Short, Unknown, Narrow}

-- the text that goes to the caller's row
abbrev pub text_of : Meaning → List ℕ
text_of (text c) = []
text_of (old c) = []
text_of (answer n) = []
text_of (sequence f) = f.text

module _ (bytes : Meaning → List ℕ) where
  -- the given bytes begin with those of the clear report m
  abbrev pub Begins : List ℕ → Meaning → Type 0
  Begins given m = Readable m × ((t : List ℕ) × (bytes m ++ t ≡ given))

  -- the given bytes only begin those of the clear report m
  abbrev pub Breaks : List ℕ → Meaning → Type 0
  Breaks given m = Readable m × ((t : List ℕ) × (0 < length t) × (given ++ t ≡ bytes m))

  abbrev pub Fills : List ℕ → List ℕ → List ℕ → Result Seen ReadFault → Type 0
  Fills given before after (Ok s) = Begins given (means s.report) × (s.length ≡ length (bytes (means s.report))) × (length (text_of (means s.report)) ≤ length before) × (after ≡ text_of (means s.report) ++ drop (length (text_of (means s.report))) before)
  Fills given before after (Err Short) = ((m : Meaning) × Breaks given m) × (after ≡ before)
  Fills given before after (Err Unknown) = ((m : Meaning) → Begins given m → ⊥) × ((m : Meaning) → Breaks given m → ⊥) × (after ≡ before)
  Fills given before after (Err Narrow) = ((m : Meaning) × Begins given m × (length before < length (text_of m))) × (after ≡ before)
