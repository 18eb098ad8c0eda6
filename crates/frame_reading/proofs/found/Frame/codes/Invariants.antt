use Rattle.sequences.specs.Leads.{lead}
use Rattle.std.proofs.Common.{◌≡◌, ◌≤◌, [], length, Result}
use Rattle.report.specs.Meanings.{characters}
use Rattle.pieces.specs.declared.found.Fault.{Fault}
use Rattle.sequences.specs.declared.told.Told.{Told}
use Rattle.sequences.specs.Parts.{Tells}
use Rattle.frame_reading.specs.Bodies.{AtCodes}
use Rattle.frame_reading.proofs.found.Frame.codes.Given as goal

-- what a result says of the rest of the characters, it says of all
abbrev pub invariant-loop : goal.invariant-loop
invariant-loop l = (l.text.count ≡ l.counter) × (l.next ≤ length l.self.bytes.now) × ((r : Result Told Fault) → Tells (AtCodes l.self.count (lead l.head) l.last (characters l.text)) l.self.bytes.now l.next r → Tells (AtCodes l.self.count (lead l.head) l.last []) l.self.bytes.now l.at r)
