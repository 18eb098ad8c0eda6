-- The plain seat: two stacks of settings, the shown screen, what was accepted, and a count of bytes.
use Rattle.std.specs.Prelude.{ℕ, ◌+◌, ◌-◌, min, cond, List, [], ◌∷◌, ◌++◌, length, Some, None, Option, ◌==◌, bit_or, nat_le, nat_lt}
use Rattle.std.specs.List.{flat_map}
use Rattle.input_types.specs.Bits.{without}
use Rattle.report.specs.Meanings.{Meaning, answer}
use Rattle.events.specs.declared.fault.Fault.{Fault}
use Rattle.events.specs.Events.{PlainEvent}
use Rattle.events.specs.Faults.{event_fault}
use Rattle.events.specs.Refusals.{number, place}
use Rattle.rules.specs.Rules.{tells}
use Rattle.settings.specs.Stack.{Stacks, fresh, in_force, shown_row, with_row, on_screen, pushed, popped, topped}

-- What a seat is set up with: the bases of its layout, the bytes of its dialect, and the capacity of its wire.
pub record Terms : Type 0 where
  pub base : ℕ → ℕ
  pub bytes : Meaning → List ℕ
  pub capacity : ℕ

pub data Call : Type 0 where
  Key : PlainEvent → Call
  Push : ℕ → Call
  Pop : ℕ → Call
  Set : ℕ → ℕ → Call
  Screen : ℕ → Call
  Query : Call
  Drain : ℕ → Call

-- A count, or the number and the place of a refusal.
pub data Reply : Type 0 where
  Done : ℕ → Reply
  Declined : ℕ → ℕ → Reply

-- An accepted key or question, with the setting that was in force.
pub data Entry : Type 0 where
  Keyed : PlainEvent → ℕ → Entry
  Asked : ℕ → Entry

abbrev pub optional : Option Meaning → List Meaning
optional None = []
optional (Some m) = m ∷ []

-- The reports that an entry tells: none or one.
abbrev pub reports_of : (ℕ → ℕ) → Entry → List Meaning
reports_of base (Keyed e flags) = optional (tells base flags e)
reports_of base (Asked flags) = answer flags ∷ []

-- The bytes of an entry's reports.
abbrev pub said : Terms → Entry → List ℕ
said t x = flat_map t.bytes (reports_of t.base x)

-- What one call comes to: the settings, what it adds to the log, how many bytes it takes off the count, and its reply.
pub record Outcome : Type 0 where
  pub stacks : Stacks
  pub log : List Entry
  pub taken : ℕ
  pub reply : Reply

abbrev pub declined : Stacks → ℕ → ℕ → Outcome
declined s n p = record { stacks = s; log = []; taken = 0; reply = Declined n p }

abbrev pub settled : Stacks → Outcome
settled s = record { stacks = s; log = []; taken = 0; reply = Done 0 }

-- An entry is accepted unless its bytes are more than are free.
abbrev pub telling : Terms → Stacks → ℕ → Entry → Outcome
telling t s count x =
    cond (nat_le (length (said t x)) (t.capacity - count)) (record { stacks = s; log = x ∷ []; taken = 0; reply = Done (length (said t x)) })
    (declined s 8 0)

abbrev pub replaced : Stacks → ℕ → Outcome
replaced s flags = settled (with_row s (topped (shown_row s) flags))

-- Mode 1 replaces the setting in force, 2 adds bits to it, 3 clears bits of it.
abbrev pub changed : Stacks → ℕ → ℕ → Outcome
changed s mode flags =
    cond (mode == 1) (replaced s flags)
    (cond (mode == 2) (replaced s (bit_or (in_force s) flags))
    (cond (mode == 3) (replaced s (without (in_force s) flags))
    (declined s 10 0)))

abbrev pub keyed : Terms → Stacks → ℕ → PlainEvent → Option Fault → Outcome
keyed t s count e None = telling t s count (Keyed e (in_force s))
keyed t s count e (Some f) = declined s (number f) (place f)

abbrev pub outcome : Terms → Stacks → ℕ → Call → Outcome
outcome t s count (Key e) = keyed t s count e (event_fault e)
outcome t s count (Push flags) = cond (nat_le flags 31) (settled (with_row s (pushed (shown_row s) flags))) (declined s 9 0)
outcome t s count (Pop n) = cond (n == 0) (declined s 10 0) (settled (with_row s (popped (shown_row s) n)))
outcome t s count (Set flags mode) = cond (nat_le flags 31) (changed s mode flags) (declined s 9 0)
outcome t s count (Screen i) = cond (nat_lt i 2) (settled (on_screen s i)) (declined s 10 0)
outcome t s count Query = telling t s count (Asked (in_force s))
outcome t s count (Drain room) = record { stacks = s; log = []; taken = min room count; reply = Done (min room count) }

pub record Plain : Type 0 where
  pub stacks : Stacks
  pub log : List Entry
  pub count : ℕ

abbrev pub start : Plain
start = record { stacks = fresh; log = []; count = 0 }

abbrev pub moved : Terms → Plain → Outcome → Plain
moved t p o =
    record { stacks = o.stacks; log = p.log ++ o.log; count = p.count + length (flat_map (said t) o.log) - o.taken }

abbrev pub next : Terms → Plain → Call → Plain
next t p c = moved t p (outcome t p.stacks p.count c)

-- The plain seat after a list of calls, and its replies.
abbrev pub after : Terms → Plain → List Call → Plain
after t p [] = p
after t p (c ∷ cs) = after t (next t p c) cs

abbrev pub replies : Terms → Plain → List Call → List Reply
replies t p [] = []
replies t p (c ∷ cs) = (outcome t p.stacks p.count c).reply ∷ replies t (next t p c) cs
