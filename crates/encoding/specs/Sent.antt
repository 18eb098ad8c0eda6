-- What an event sends, and what the row of bytes holds then.
use Rattle.std.specs.Prelude.{◌≡◌, ℕ, ◌≤◌, true, List, [], ◌++◌, length, drop, Some, None, Option}
use Rattle.report.specs.Meanings.{Meaning}
use Rattle.events.specs.declared.fault.Fault.{Fault}
use Rattle.events.specs.Events.{PlainEvent}
use Rattle.events.specs.Faults.{event_fault, faultless}
use Rattle.rules.specs.Rules.{tells, told_text}

-- the bytes of what is told, if anything is
abbrev pub bytes_told : (Meaning → List ℕ) → Option Meaning → List ℕ
bytes_told bytes None = []
bytes_told bytes (Some m) = bytes m

abbrev pub sent : (ℕ → ℕ) → (Meaning → List ℕ) → ℕ → PlainEvent → List ℕ
sent base bytes flags e = bytes_told bytes (tells base flags e)

-- the event passed the check, and n bytes of it went to the front of the row
pub record Sends (base : ℕ → ℕ) (bytes : Meaning → List ℕ) (flags : ℕ) (e : PlainEvent) (n : ℕ) (before after : List ℕ) : Type 0 where
  pub passed : faultless e ≡ true
  pub count : n ≡ length (sent base bytes flags e)
  pub within : n ≤ 512
  pub row : after ≡ sent base bytes flags e ++ drop n before

-- the event's first fault is f, and the row is as it was
pub record Refuses (e : PlainEvent) (f : Fault) (before after : List ℕ) : Type 0 where
  pub fault : event_fault e ≡ Some f
  pub same : after ≡ before

-- the event has a fault, or the rule of plain text tells nothing of it, and the row is as it was
pub record NoText (flags : ℕ) (e : PlainEvent) (before after : List ℕ) : Type 0 where
  pub other : faultless e ≡ true → told_text flags e ≡ None
  pub same : after ≡ before
