-- A call that the plain seat declines leaves what a seat shows as it was.
use Rattle.std.proofs.Common.{◌≡◌, ℕ, Bool, true, false, cond, List, [], ◌++◌, length, Some, None, Option, refl, ap, sym, ◌∙◌, ◌==◌, bit_or}
use Rattle.std.specs.List.{flat_map}
use Rattle.std.proofs.lemmas.List.{append-nil}
use Rattle.input_types.specs.Bits.{without}
use Rattle.events.specs.declared.fault.Fault.{Fault}
use Rattle.events.specs.Events.{PlainEvent}
use Rattle.events.specs.Faults.{event_fault}
use Rattle.events.specs.Refusals.{number, place}
use Rattle.settings.specs.Stack.{Stacks, in_force}
use Rattle.plain_seat.specs.Plain.{Terms, Call, Key, Push, Pop, Set, Screen, Query, Drain, Done, Declined, Entry, Keyed, Asked, Outcome, declined, telling, keyed, replaced, changed, outcome, said}
use Rattle.plain_seat.specs.Reading.{View, Steps}
use Rattle.seat_state.proofs.Leaving.{no_bytes}

-- what is declined changes nothing
abbrev Same : Stacks → Outcome → Type 0
Same s o = (n p : ℕ) → o.reply ≡ Declined n p → (o.stacks ≡ s) × (o.log ≡ []) × (o.taken ≡ 0)

by_test : (s : Stacks) (b : Bool) (o u : Outcome) → Same s o → Same s u → Same s (cond b o u)
by_test s true o u f g = f
by_test s false o u f g = g

done : (s : Stacks) (o : Outcome) (n : ℕ) → o.reply ≡ Done n → Same s o
done s o n e m p d = cc

refused : (s : Stacks) (m q : ℕ) → Same s (declined s m q)
refused s m q n p e = (refl, refl, refl)

told : (t : Terms) (s : Stacks) (count : ℕ) (x : Entry) → Same s (telling t s count x)
told t s count x = by_test s _ _ _ (done s _ (length (said t x)) refl) (refused s 8 0)

key : (t : Terms) (s : Stacks) (count : ℕ) (e : PlainEvent) (o : Option Fault) → Same s (keyed t s count e o)
key t s count e None = told t s count (Keyed e (in_force s))
key t s count e (Some f) = refused s (number f) (place f)

abbrev clears : Stacks → ℕ → ℕ → Outcome
clears s mode flags = cond (mode == 3) (replaced s (without (in_force s) flags)) (declined s 10 0)

abbrev adds : Stacks → ℕ → ℕ → Outcome
adds s mode flags = cond (mode == 2) (replaced s (bit_or (in_force s) flags)) (clears s mode flags)

clear : (s : Stacks) (mode flags : ℕ) → Same s (clears s mode flags)
clear s mode flags =
    by_test s (mode == 3) (replaced s (without (in_force s) flags)) (declined s 10 0) (done s (replaced s (without (in_force s) flags)) 0 refl) (refused s 10 0)

add : (s : Stacks) (mode flags : ℕ) → Same s (adds s mode flags)
add s mode flags =
    by_test s (mode == 2) (replaced s (bit_or (in_force s) flags)) (clears s mode flags) (done s (replaced s (bit_or (in_force s) flags)) 0 refl) (clear s mode flags)

change : (s : Stacks) (mode flags : ℕ) → Same s (changed s mode flags)
change s mode flags =
    by_test s (mode == 1) (replaced s flags) (adds s mode flags) (done s (replaced s flags) 0 refl) (add s mode flags)

same : (t : Terms) (s : Stacks) (count : ℕ) (c : Call) → Same s (outcome t s count c)
same t s count (Key e) = key t s count e (event_fault e)
same t s count (Push flags) = by_test s _ _ _ (done s _ 0 refl) (refused s 9 0)
same t s count (Pop n) = by_test s _ _ _ (refused s 10 0) (done s _ 0 refl)
same t s count (Set flags mode) = by_test s _ (changed s mode flags) _ (change s mode flags) (refused s 9 0)
same t s count (Screen i) = by_test s _ _ _ (done s _ 0 refl) (refused s 10 0)
same t s count Query = told t s count (Asked (in_force s))
same t s count (Drain room) = done s _ _ refl

view : (t u : Terms) (x y : List ℕ) (a b : Stacks) → t ≡ u → x ≡ y → a ≡ b → (let v : View = record { terms = t; waiting = x; stacks = a } in v) ≡ record { terms = u; waiting = y; stacks = b }
view t u x y a b e f g = cc

pub unchanged : (v w : View) (c : Call) (n p : ℕ) (bs : List ℕ) → Steps v c (Declined n p) bs w → w ≡ v
unchanged v w c n p bs s =
    let k = same v.terms v.stacks (length v.waiting) c n p (sym s.reply) in
    let none : bs ≡ [] = no_bytes bs (s.taken ∙ k.2) in
    let front : bs ++ w.waiting ≡ w.waiting = ap (λ l. l ++ w.waiting) none in
    let back : v.waiting ++ flat_map (said v.terms) (outcome v.terms v.stacks (length v.waiting) c).log ≡ v.waiting = ap (λ l. v.waiting ++ flat_map (said v.terms) l) k.1 ∙ append-nil v.waiting in
    view w.terms v.terms w.waiting v.waiting w.stacks v.stacks s.terms (sym front ∙ s.bytes ∙ back) (s.stacks ∙ k.0)
