-- What the caller's row holds after a text was put to its front, or had no room.
use Rattle.std.specs.Prelude.{◌≡◌, ℕ, ◌<◌, ◌≤◌, Bool, true, false, List, ◌++◌, length, drop, Ok, Err, Result}
use Rattle.report.specs.Meanings.{means}
use Rattle.pieces.specs.declared.found.Fault.{Fault}
use Rattle.reading.specs.declared.faults.ReadFault.{ReadFault}
use Rattle.reading.specs.declared.faults.ReadFault.TheVariants.{Narrow}
use Rattle.pieces.specs.declared.found.Seen.{Seen}
use Rattle.reading.specs.Faults.{read_fault}
use Rattle.reading.specs.Reading.{text_of}

abbrev pub Filled : List ℕ → List ℕ → List ℕ → Bool → Type 0
Filled codes before after true = (length codes ≤ length before) × (after ≡ codes ++ drop (length codes) before)
Filled codes before after false = (length before < length codes) × (after ≡ before)

-- what was found is answered where its text has room, and a fault as it is
abbrev pub Stores : Result Seen Fault → List ℕ → List ℕ → Result Seen ReadFault → Type 0
Stores (Ok s) before after (Ok t) = (t ≡ s) × Filled (text_of (means s.report)) before after true
Stores (Ok s) before after (Err e) = (e ≡ Narrow) × Filled (text_of (means s.report)) before after false
Stores (Err f) before after (Ok t) = ⊥
Stores (Err f) before after (Err e) = (e ≡ read_fault f) × (after ≡ before)
