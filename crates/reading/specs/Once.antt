-- Given bytes have one answer.
use Rattle.std.specs.Prelude.{◌≡◌, ℕ, ◌<◌, ◌≤◌, List, length, Ok, Err, Result}
use Rattle.report.specs.Meanings.{Meaning, means}
use Rattle.reading.specs.declared.faults.ReadFault.{ReadFault}
use Rattle.reading.specs.declared.faults.ReadFault.TheVariants.{Short, Unknown, Narrow}
use Rattle.pieces.specs.declared.found.Seen.{Seen}
use Rattle.reading.specs.Reading.{Begins, Breaks, Fills, text_of}

-- the report was found
abbrev pub Returns : Meaning → Result Seen ReadFault → Type 0
Returns m (Ok s) = means s.report ≡ m
Returns m (Err e) = ⊥

-- each answer comes where its condition holds
pub record Answers (bytes : Meaning → List ℕ) (given before : List ℕ) (r : Result Seen ReadFault) : Type 0 where
  pub whole : (m : Meaning) → Begins bytes given m → length (text_of m) ≤ length before → Returns m r
  pub narrow : (m : Meaning) → Begins bytes given m → length before < length (text_of m) → r ≡ Err Narrow
  pub part : (m : Meaning) → Breaks bytes given m → r ≡ Err Short
  pub nothing : ((m : Meaning) → Begins bytes given m → ⊥) → ((m : Meaning) → Breaks bytes given m → ⊥) → r ≡ Err Unknown

abbrev pub OneAnswer : (Meaning → List ℕ) → Type 0
OneAnswer bytes = (given before after : List ℕ) (r : Result Seen ReadFault) → Fills bytes given before after r → Answers bytes given before r
