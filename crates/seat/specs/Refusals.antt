-- A refusal's number, the place that it speaks of, or 0, and what it is printed as.
use Rattle.std.specs.Prelude.{ℕ, List, codes}
use Rattle.events.specs.Refusals.{meaning, number, place}
use Rattle.seat.specs.declared.refusal.Refusal.{Refusal}
use Rattle.seat.specs.declared.refusal.Refusal.TheVariants.{Event, NoRoom, Flags, Value}

abbrev pub refusal_number : Refusal → ℕ
refusal_number (Event f) = number f
refusal_number NoRoom = 8
refusal_number Flags = 9
refusal_number Value = 10

abbrev pub refusal_place : Refusal → ℕ
refusal_place (Event f) = place f
refusal_place NoRoom = 0
refusal_place Flags = 0
refusal_place Value = 0

abbrev pub refusal_meaning : Refusal → List ℕ
refusal_meaning (Event f) = meaning f
refusal_meaning NoRoom = codes "a report longer than what is free"
refusal_meaning Flags = codes "settings above 31"
refusal_meaning Value = codes "a count of zero, an unknown mode, or a screen above 1"
