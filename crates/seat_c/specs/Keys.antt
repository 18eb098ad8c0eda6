-- A key that comes as numbers.
use Rattle.std.specs.Prelude.{List, [], ℕ, Some, None, Option}
use Rattle.input_types.specs.declared.event.KeyEvent.{KeyEvent}
use Rattle.script.specs.declared.Call.TheVariants.{Key}
use Rattle.seat_state.specs.declared.answer.Answer.{Answer}
use Rattle.seat_state.specs.declared.kept.RingState.{RingState}
use Rattle.seat_state.specs.declared.kept.PageState.{PageState}
use Rattle.seat_state.specs.Calls.{Refused, RingAnswers, PageAnswers}

-- Numbers that make no event are refused, and nothing changes.
abbrev pub KeyOverRing : Option KeyEvent → RingState → Answer → RingState → Type 0
KeyOverRing None k a k' = Refused 26 k [] a [] k'
KeyOverRing (Some e) k a k' = RingAnswers k (Key e) [] a [] k'

abbrev pub KeyOverPage : Option KeyEvent → PageState → List ℕ → Answer → PageState → List ℕ → Type 0
KeyOverPage None k page a k' page' = Refused {S = PageState × List ℕ} 26 (k, page) [] a [] (k', page')
KeyOverPage (Some e) k page a k' page' = PageAnswers k page (Key e) [] a [] k' page'
