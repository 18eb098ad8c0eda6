-- What a seat shows, and how its answers count as replies.
use Rattle.std.specs.Prelude.{◌≡◌, ℕ, ◌-◌, Bool, cond, ◌++◌, length, Ok, Err, Result, nat_le}
use Rattle.report.specs.Meanings.{Meaning}
use Rattle.wire.specs.declared.Wire as wire
use Rattle.layout.specs.declared.Layout as layout
use Rattle.dialect.specs.declared.dialect.Dialect as dialect
use Rattle.settings.specs.Rows.{stacks_of}
use Rattle.plain_seat.specs.Plain.{Reply, Done, Declined}
use Rattle.plain_seat.specs.Reading.{View}
use Rattle.seat.specs.declared.refusal.Refusal.{Refusal}
use Rattle.seat.specs.declared.seat.Seat.{Seat}
use Rattle.seat.specs.Refusals.{refusal_number, refusal_place}

-- what the wire, the layout and the dialect of a seat say of it
abbrev pub view_of : {W L D : Type 0} → wire.Ghosts W → layout.Ghosts L → dialect.Ghosts D → Seat W L D → View
view_of w l d s =
    record {
      terms = record { base = l.base s.layout; bytes = d.bytes s.dialect; capacity = w.capacity s.wire };
      waiting = w.waiting s.wire;
      stacks = stacks_of s.settings;
    }

abbrev pub declines : Refusal → Reply
declines r = Declined (refusal_number r) (refusal_place r)

-- an answer that counts bytes
abbrev pub counted : Result ℕ Refusal → Reply
counted (Ok n) = Done n
counted (Err e) = declines e

-- an answer with nothing to count
abbrev pub plain_reply : {X : Type 0} → Result X Refusal → Reply
plain_reply (Ok x) = Done 0
plain_reply (Err e) = declines e

-- Whether a report's bytes are no more than are free.
abbrev pub fitting : View → Meaning → Bool
fitting v m = nat_le (length (v.terms.bytes m)) (v.terms.capacity - length v.waiting)

-- What is left once a report was handed to the wire: its bytes wait, or nothing has changed.
pub record Sent (v : View) (m : Meaning) (r : Result ℕ Refusal) (w : View) : Type 0 where
  pub terms : w.terms ≡ v.terms
  pub stacks : w.stacks ≡ v.stacks
  pub reply : counted r ≡ cond (fitting v m) (Done (length (v.terms.bytes m))) (Declined 8 0)
  pub waiting : w.waiting ≡ cond (fitting v m) (v.waiting ++ v.terms.bytes m) v.waiting
