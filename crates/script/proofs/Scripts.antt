-- One call of a list, and one call more.
use Rattle.std.proofs.Common.{◌≡◌, ℕ, ◌+◌, ◌-◌, ◌<◌, ◌≤◌, min, List, [], ◌∷◌, ◌++◌, length, get_or, take, drop, set, Ok, Result, sym, ap, ◌∙◌, subst, arith, length-append, length-take}
use Rattle.std.specs.List.{flat_map}
use lib.Seq.{take-append-add, drop-append-add}
use Rattle.std.proofs.lemmas.List.{length-take-le, take-append-le, drop-append-le, take_more, take_more_set, drop-set-lt, drop-drop, map_push, flat_map_more}
use Rattle.plain_seat.specs.Plain as plain
use Rattle.plain_seat.specs.Plain.{Done}
use Rattle.plain_seat.specs.Reading.{Turn, View, Steps, GoesOn, turn}
use Rattle.seat.specs.declared.refusal.Refusal.{Refusal}
use Rattle.seat.specs.Seats.{counted}
use Rattle.script.specs.declared.Call.{Call}
use Rattle.script.specs.declared.Call.TheVariants.{Drain}
use Rattle.script.specs.Scripts.{call_of, handed, moved_by, Made, Replayed}

-- What one call leaves.
pub record Called (v : View) (call : Call) (r : Result ℕ Refusal) (before after : List ℕ) (w : View) : Type 0 where
  pub steps : Steps v (call_of (length before) call) (counted r) (moved_by call r after) w
  pub reading : GoesOn v (call_of (length before) call) (counted r) (moved_by call r after) w
  pub rest : drop (handed call r) after ≡ drop (handed call r) before
  pub room : handed call r ≤ length before

abbrev amount : plain.Reply → ℕ
amount (plain.Done n) = n
amount (plain.Declined n p) = 0

-- A drain into the front of a buffer.
drained : (v w : View) (before part tail after : List ℕ) (r room : ℕ) → part ++ tail ≡ before → length part ≡ min room (length before) → Steps v (plain.Drain (length part)) (Done r) (take r after) w → GoesOn v (plain.Drain (length part)) (Done r) (take r after) w → drop r after ≡ drop r part → Called v (Drain room) (Ok r) before (after ++ tail) w
drained v w before part tail after r room whole front s g same =
    let k : length (take r after) ≡ min (length part) (length v.waiting) = s.taken in
    let count : r ≡ min (length part) (length v.waiting) = ap amount s.reply in
    let l : length (take r after) ≡ min r (length after) = length-take r after in
    let within : r ≤ length after = omega arith in
    let moved : take r (after ++ tail) ≡ take r after = take-append-le r after tail within in
    record {
      steps = subst (λ bs. Steps v (plain.Drain (min room (length before))) (Done r) bs w) (sym moved) (subst (λ x. Steps v (plain.Drain x) (Done r) (take r after) w) front s);
      reading = subst (λ bs. GoesOn v (plain.Drain (min room (length before))) (Done r) bs w) (sym moved) (subst (λ x. GoesOn v (plain.Drain x) (Done r) (take r after) w) front g);
      rest = cc (drop-append-le r after tail within, drop-append-le r part tail (omega arith));
      room = omega arith;
    }

pub drain_front : (v w : View) (call : Call) (before part tail after : List ℕ) (r room : ℕ) → call ≡ Drain room → part ++ tail ≡ before → length part ≡ min room (length before) → Steps v (plain.Drain (length part)) (Done r) (take r after) w → GoesOn v (plain.Drain (length part)) (Done r) (take r after) w → drop r after ≡ drop r part → Called v call (Ok r) before (after ++ tail) w
drain_front v w call before part tail after r room is whole front s g same =
    subst (λ x. Called v x (Ok r) before (after ++ tail) w) (sym is) (drained v w before part tail after r room whole front s g same)

made_more : (room : ℕ) (calls : List Call) (h : List Turn) (c : Call) (t : Turn) → Made room calls h → t.call ≡ call_of (room - length (flat_map (λ u. u.bytes) h)) c → Made room (calls ++ c ∷ []) (h ++ t ∷ [])
made_more room [] [] c t m e = (e ∙ ap (λ k. call_of k c) (omega arith), tt)
made_more room [] (u ∷ h) c t m e = absurd m
made_more room (d ∷ calls) [] c t m e = absurd m
made_more room (d ∷ calls) (u ∷ h) c t m e =
    let left : room - length (u.bytes ++ flat_map (λ x. x.bytes) h) ≡ room - length u.bytes - length (flat_map (λ x. x.bytes) h) = rw length-append (omega arith) in
    (m.0, made_more (room - length u.bytes) calls h c t m.1 (e ∙ ap (λ k. call_of k c) left))

-- What holds after i calls of a list.
pub record Going (empty : Type 0) (u v : View) (calls : List Call) (i : ℕ) (answers₀ answers : List (Result ℕ Refusal)) (drained : ℕ) (buffer₀ buffer : List ℕ) : Type 0 where
  pub terms : v.terms ≡ u.terms
  pub reading : empty → Replayed v (length buffer₀) (take i calls) (take i answers) (take drained buffer)
  pub answers_rest : drop i answers ≡ drop i answers₀
  pub buffer_rest : drop drained buffer ≡ drop drained buffer₀
  pub within : drained ≤ length buffer

-- One call more: its answer follows the others, and its bytes follow theirs.
pub going_more : (empty : Type 0) (u v w : View) (calls : List Call) (i : ℕ) (d : Call) (answers₀ answers : List (Result ℕ Refusal)) (r : Result ℕ Refusal) (at n : ℕ) (buffer₀ buffer part tail after : List ℕ) → i < length calls → i < length answers → length buffer ≡ length buffer₀ → length part ≡ length buffer₀ - at → part ++ tail ≡ drop at buffer → length after ≡ length part → n ≡ handed (get_or calls i d) r → Going empty u v calls i answers₀ answers at buffer₀ buffer → Called v (get_or calls i d) r part after w → Going empty u w calls (i + 1) answers₀ (set answers i r) (at + n) buffer₀ (take at buffer ++ (after ++ tail))
going_more empty u v w calls i d answers₀ answers r at n buffer₀ buffer part tail after in-calls in-answers size room whole same is k s =
    let c = get_or calls i d in
    let t : Turn = turn (call_of (length part) c) (counted r) (moved_by c r after) in
    let behind : at ≤ length buffer = k.within in
    let front : length (take at buffer) ≡ at = length-take-le at buffer behind in
    let few : n ≤ length part = subst (λ x. x ≤ length part) (sym is) s.room in
    let fits : n ≤ length after = omega arith in
    let moved : take (at + n) (take at buffer ++ (after ++ tail)) ≡ take at buffer ++ take n after =
    cc (take-append-add (take at buffer) (after ++ tail) n, take-append-le n after tail fits) in
    record {
      terms = s.steps.terms ∙ k.terms;
      reading = λ e.
          let p = k.reading e in
          let h = p.history in
          let drained : length (flat_map (λ x. x.bytes) h) ≡ at = ap length p.bytes_are ∙ front in
          record {
            history = h ++ t ∷ [];
            made = subst (λ l. Made (length buffer₀) l (h ++ t ∷ [])) (sym (take_more calls i d in-calls)) (made_more (length buffer₀) (take i calls) h c t p.made (ap (λ x. call_of x c) (room ∙ ap (λ x. length buffer₀ - x) (sym drained))));
            answers_are = cc (map_push (λ x. x.reply) h t, p.answers_are, map_push counted (take i answers) r, take_more_set answers i r in-answers);
            bytes_are = cc (flat_map_more (λ x. x.bytes) [] h t, p.bytes_are);
            reading = s.reading h p.reading;
          };
      answers_rest = cc (drop-set-lt (i + 1) answers i r (omega arith), drop-drop 1 i answers, drop-drop 1 i answers₀);
      buffer_rest = cc (drop-append-add (take at buffer) (after ++ tail) n, drop-append-le n after tail fits, drop-append-le n part tail few, drop-drop n at buffer, drop-drop n at buffer₀);
      within = rw length-append (rw length-append (omega arith));
    }
