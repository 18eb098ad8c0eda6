-- A list of calls, and the main theorem over a whole list.
use Rattle.std.specs.Prelude.{◌≡◌, ℕ, ◌-◌, min, List, [], ◌∷◌, map, length, take, Ok, Err, Result}
use Rattle.std.specs.List.{flat_map}
use Rattle.events.specs.Events.{plain_event}
use Rattle.plain_seat.specs.Plain as plain
use Rattle.plain_seat.specs.Reading.{OneReading, Turn, View}
use Rattle.seat.specs.declared.refusal.Refusal.{Refusal}
use Rattle.seat.specs.Seats.{counted}
use Rattle.script.specs.declared.Call.{Call}
use Rattle.script.specs.declared.Call.TheVariants as C

-- A drain asks for no more than there is room for.
abbrev pub call_of : ℕ → Call → plain.Call
call_of room (C.Key e) = plain.Key (plain_event e)
call_of room (C.Push f) = plain.Push f
call_of room (C.Pop n) = plain.Pop n
call_of room (C.Set f m) = plain.Set f m
call_of room (C.Screen i) = plain.Screen i
call_of room C.Query = plain.Query
call_of room (C.Drain n) = plain.Drain (min n room)

abbrev pub count_of : Result ℕ Refusal → ℕ
count_of (Ok n) = n
count_of (Err e) = 0

-- How many bytes an answered call handed over: those of a drain.
abbrev pub handed : Call → Result ℕ Refusal → ℕ
handed (C.Key e) r = 0
handed (C.Push f) r = 0
handed (C.Pop n) r = 0
handed (C.Set f m) r = 0
handed (C.Screen i) r = 0
handed C.Query r = 0
handed (C.Drain n) r = count_of r

-- The bytes that a call handed over, at the front of a buffer.
abbrev pub moved_by : Call → Result ℕ Refusal → List ℕ → List ℕ
moved_by c r buffer = take (handed c r) buffer

-- A history of these calls, in order: each drain had the room that those before it left.
abbrev pub Made : ℕ → List Call → List Turn → Type 0
Made room [] [] = Unit {0}
Made room [] (t ∷ h) = ⊥
Made room (c ∷ cs) [] = ⊥
Made room (c ∷ cs) (t ∷ h) = (t.call ≡ call_of room c) × Made (room - length t.bytes) cs h

-- After every list of calls: the history of these calls, with these answers and bytes, has one reading.
pub record Replayed (v : View) (room : ℕ) (calls : List Call) (answers : List (Result ℕ Refusal)) (bytes : List ℕ) : Type 0 where
  pub history : List Turn
  pub made : Made room calls history
  pub answers_are : map (λ t. t.reply) history ≡ map counted answers
  pub bytes_are : flat_map (λ t. t.bytes) history ≡ bytes
  pub reading : OneReading v history
