-- The numbers that are kept of a seat tell it.
use Rattle.std.specs.Prelude.{◌≡◌, ℕ, List}
use Rattle.settings.specs.Rows.{stacks_of}
use Rattle.seat_state.specs.declared.kept.RingState.{RingState}
use Rattle.seat_state.specs.declared.kept.PageState.{PageState}
use Rattle.seat_state.specs.Keeping.{RingSeat, PageSeat, KeepsRing, NoRing, KeepsPage, NoPage}

-- Two seats are the same in their wire, layout, dialect and settings.
pub record SameSeat (s t : RingSeat) : Type 0 where
  pub layout : s.layout ≡ t.layout
  pub dialect : s.dialect ≡ t.dialect
  pub settings : stacks_of s.settings ≡ stacks_of t.settings
  pub table : s.wire.table ≡ t.wire.table
  pub head : s.wire.head ≡ t.wire.head
  pub len : s.wire.len ≡ t.wire.len

abbrev pub OneSeat : Type 0
OneSeat = (k : RingState) (s t : RingSeat) → KeepsRing k s → KeepsRing k t → SameSeat s t

abbrev pub NeverRefused : Type 0
NeverRefused = (k : RingState) (s : RingSeat) → KeepsRing k s → NoRing k → ⊥

-- The same over a page, whose bytes tell with the numbers.
pub record SamePageSeat (s t : PageSeat) : Type 0 where
  pub layout : s.layout ≡ t.layout
  pub dialect : s.dialect ≡ t.dialect
  pub settings : stacks_of s.settings ≡ stacks_of t.settings
  pub bytes : s.wire.buffer.now ≡ t.wire.buffer.now
  pub len : s.wire.len ≡ t.wire.len

abbrev pub OnePageSeat : Type 0
OnePageSeat = (k : PageState) (page : List ℕ) (s t : PageSeat) → KeepsPage k page s → KeepsPage k page t → SamePageSeat s t

abbrev pub PageNeverRefused : Type 0
PageNeverRefused = (k : PageState) (page : List ℕ) (s : PageSeat) → KeepsPage k page s → NoPage k page → ⊥
