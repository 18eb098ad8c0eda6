-- The bytes of one event, with no seat.
use Rattle.std.specs.Prelude.{◌≡◌, ℕ, ◌≤◌, ◌⊎◌, List, Some, None, Ok, Err, Option, Result, MatchResult}
use Rattle.input_types.specs.declared.event.KeyEvent.{KeyEvent}
use Rattle.events.specs.declared.fault.Fault.{Fault}
use Rattle.events.specs.Events.{plain_event}
use Rattle.events.specs.Refusals.{number, place}
use Rattle.encoding.specs.Sent.{Sends, Refuses}
use Rattle.seat_state.specs.declared.answer.Answer.{Answer}
use Rattle.seat_state.specs.declared.known.AnyLayout.{AnyLayout}
use Rattle.seat_state.specs.declared.known.AnyDialect.{AnyDialect}
use Rattle.seat_state.specs.Answers.{done, refusal}
use Rattle.seat_state.specs.Known.{layout_number, base_in, dialect_number, bytes_in}

abbrev pub checked_answer : Result ℕ Fault → Answer
checked_answer (Ok n) = done n
checked_answer (Err f) = record { refusal = number f; value = place f }

-- A number stands for nothing: 26; or for no setting: 9. Nothing is written.
pub record Unwritten (layout dialect flags : ℕ) (e : Option KeyEvent) (before : List ℕ) (a : Answer) (after : List ℕ) : Type 0 where
  pub answer : (((2 ≤ layout) ⊎ (2 ≤ dialect) ⊎ (e ≡ None)) × (a ≡ refusal 26)) ⊎ ((32 ≤ flags) × (a ≡ refusal 9))
  pub same : after ≡ before

-- What the event sends stands at the front, and the rest stays; a fault of the event writes nothing.
pub record Written (layout dialect flags : ℕ) (e : Option KeyEvent) (before : List ℕ) (a : Answer) (after : List ℕ) : Type 0 where
  pub by : AnyLayout
  pub in_dialect : AnyDialect
  pub event : KeyEvent
  pub outcome : Result ℕ Fault
  pub layout_is : layout_number by ≡ layout
  pub dialect_is : dialect_number in_dialect ≡ dialect
  pub flags_are : flags ≤ 31
  pub event_is : e ≡ Some event
  pub answer : a ≡ checked_answer outcome
  pub bytes : MatchResult outcome (λ n. Sends (base_in by) (bytes_in in_dialect) flags (plain_event event) n before after) (λ f. Refuses (plain_event event) f before after)

abbrev pub Encodes : ℕ → ℕ → ℕ → Option KeyEvent → List ℕ → Answer → List ℕ → Type 0
Encodes layout dialect flags e before a after =
    Unwritten layout dialect flags e before a after ⊎ Written layout dialect flags e before a after
