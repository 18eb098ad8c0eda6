use Rattle.std.proofs.Common.{◌≡◌, [], Result}
use Rattle.report.specs.Meanings.{characters}
use Rattle.pieces.specs.declared.found.Fault.{Fault}
use Rattle.sequences.specs.declared.told.Told.{Told}
use Rattle.sequences.specs.Leads.{lead}
use Rattle.sequences.specs.Parts.{AtText, Tells}
use Rattle.sequences.proofs.sequences.read_text.Given as goal

-- what a result says of the rest of the text, it says of the whole
abbrev pub invariant-loop : goal.invariant-loop
invariant-loop l = (l.text.count ≡ l.counter) × ((r : Result Told Fault) → Tells (AtText (lead l.head) (characters l.text)) l.bytes l.next r → Tells (AtText (lead l.head) []) l.bytes l.at r)
