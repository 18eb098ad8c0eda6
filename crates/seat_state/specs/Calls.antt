-- What a call of a seat does that a caller keeps as numbers.
use Rattle.std.specs.Prelude.{◌≡◌, ℕ, ◌≤◌, ◌⊎◌, List, length, drop, Ok, Err, Result}
use Rattle.plain_seat.specs.Reading.{View, Steps, GoesOn}
use Rattle.seat.specs.declared.refusal.Refusal.{Refusal}
use Rattle.seat.specs.Seats.{counted}
use Rattle.script.specs.declared.Call.{Call}
use Rattle.script.specs.Scripts.{call_of, handed, moved_by}
use Rattle.seat_state.specs.declared.answer.Answer.{Answer}
use Rattle.seat_state.specs.declared.kept.RingState.{RingState}
use Rattle.seat_state.specs.declared.kept.PageState.{PageState}
use Rattle.seat_state.specs.Answers.{answer_of, refusal}
use Rattle.seat_state.specs.Keeping.{RingSeat, PageSeat, KeepsRing, NoRing, KeepsPage, NoPage, ring_view, page_view}

-- The call is the plain seat's step, and goes on from every history; what it hands over stands at the buffer's front.
pub record Made (v : View) (call : Call) (before : List ℕ) (r : Result ℕ Refusal) (after : List ℕ) (w : View) : Type 0 where
  pub steps : Steps v (call_of (length before) call) (counted r) (moved_by call r after) w
  pub reading : GoesOn v (call_of (length before) call) (counted r) (moved_by call r after) w
  pub rest : drop (handed call r) after ≡ drop (handed call r) before
  pub room : handed call r ≤ length before

-- A call that is accepted leaves what is kept then; a refusal leaves all as it was, and the seat shows the same.
abbrev pub Leaves : {S : Type 0} → Result ℕ Refusal → S → S → Type 0 → Type 0 → Type 0
Leaves (Ok n) before after kept same = kept
Leaves (Err e) before after kept same = (after ≡ before) × same

pub record RingCalled (k : RingState) (call : Call) (before : List ℕ) (a : Answer) (after : List ℕ) (k' : RingState) : Type 0 where
  pub from : RingSeat
  pub to : RingSeat
  pub outcome : Result ℕ Refusal
  pub read : KeepsRing k from
  pub answer : a ≡ answer_of outcome
  pub made : Made (ring_view from) call before outcome after (ring_view to)
  pub left : Leaves outcome k k' (KeepsRing k' to) (ring_view to ≡ ring_view from)

-- What is no state is refused, and nothing changes.
pub record Refused {S : Type 0} (n : ℕ) (k : S) (before : List ℕ) (a : Answer) (after : List ℕ) (k' : S) : Type 0 where
  pub answer : a ≡ refusal n
  pub state : k' ≡ k
  pub buffer : after ≡ before

abbrev pub RingAnswers : RingState → Call → List ℕ → Answer → List ℕ → RingState → Type 0
RingAnswers k call before a after k' =
    (NoRing k × Refused 25 k before a after k') ⊎ RingCalled k call before a after k'

-- An accepted call leaves a page of the same size, over which the seat's wire lies: what waits is as many bytes of its
-- front as the state counts, and those behind stay.
pub record LeavesPage (page : List ℕ) (k : PageState) (page' : List ℕ) (s : PageSeat) : Type 0 where
  pub kept : KeepsPage k page' s
  pub size : length page' ≡ length page
  pub behind : drop k.count page' ≡ drop k.count page

pub record PageCalled (k : PageState) (page : List ℕ) (call : Call) (before : List ℕ) (a : Answer) (after : List ℕ) (k' : PageState) (page' : List ℕ) : Type 0 where
  pub from : PageSeat
  pub to : PageSeat
  pub outcome : Result ℕ Refusal
  pub read : KeepsPage k page from
  pub answer : a ≡ answer_of outcome
  pub made : Made (page_view from) call before outcome after (page_view to)
  pub left : Leaves {S = PageState × List ℕ} outcome (k, page) (k', page') (LeavesPage page k' page' to) (page_view to ≡ page_view from)

abbrev pub PageAnswers : PageState → List ℕ → Call → List ℕ → Answer → List ℕ → PageState → List ℕ → Type 0
PageAnswers k page call before a after k' page' =
    (NoPage k page × Refused {S = PageState × List ℕ} 25 (k, page) before a after (k', page')) ⊎ PageCalled k page call before a after k' page'
