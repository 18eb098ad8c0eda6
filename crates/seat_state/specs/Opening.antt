-- Opening a seat that a caller keeps as numbers.
use Rattle.std.specs.Prelude.{◌≡◌, ℕ, ◌≤◌, ◌⊎◌, List, []}
use Rattle.plain_seat.specs.Reading.{OneReading}
use Rattle.seat_state.specs.declared.answer.Answer.{Answer}
use Rattle.seat_state.specs.declared.kept.RingState.{RingState}
use Rattle.seat_state.specs.declared.kept.PageState.{PageState}
use Rattle.seat_state.specs.Answers.{done, refusal}
use Rattle.seat_state.specs.Keeping.{RingSeat, PageSeat, KeepsRing, KeepsPage, ring_view, page_view}
use Rattle.seat_state.specs.Known.{layout_number, dialect_number}

-- A number names no layout or no dialect, and nothing changes.
pub record Unopened {S : Type 0} (layout dialect : ℕ) (k : S) (a : Answer) (k' : S) : Type 0 where
  pub unknown : (2 ≤ layout) ⊎ (2 ≤ dialect)
  pub answer : a ≡ refusal 26
  pub state : k' ≡ k

-- A seat is kept whose history begins.
pub record OpenedRing (layout dialect : ℕ) (a : Answer) (k : RingState) : Type 0 where
  pub seat : RingSeat
  pub kept : KeepsRing k seat
  pub layout_is : layout_number seat.layout ≡ layout
  pub dialect_is : dialect_number seat.dialect ≡ dialect
  pub reading : OneReading (ring_view seat) []
  pub answer : a ≡ done 0

abbrev pub OpensRing : ℕ → ℕ → RingState → Answer → RingState → Type 0
OpensRing layout dialect k a k' = Unopened layout dialect k a k' ⊎ OpenedRing layout dialect a k'

-- The same over a page, which keeps its bytes.
pub record OpenedPage (layout dialect : ℕ) (page : List ℕ) (a : Answer) (k : PageState) (page' : List ℕ) : Type 0 where
  pub seat : PageSeat
  pub kept : KeepsPage k page' seat
  pub same : page' ≡ page
  pub layout_is : layout_number seat.layout ≡ layout
  pub dialect_is : dialect_number seat.dialect ≡ dialect
  pub reading : OneReading (page_view seat) []
  pub answer : a ≡ done 0

abbrev pub OpensPage : ℕ → ℕ → List ℕ → PageState → Answer → PageState → List ℕ → Type 0
OpensPage layout dialect page k a k' page' =
    Unopened {S = PageState × List ℕ} layout dialect (k, page) a (k', page') ⊎ OpenedPage layout dialect page a k' page'
