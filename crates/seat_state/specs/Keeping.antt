-- What a caller keeps of a seat: the numbers of its parts.
use Rattle.std.specs.Prelude.{◌≡◌, ℕ, ◌<◌, ◌≤◌, ◌⊎◌, List, [], ◌∷◌, map, length}
use Rattle.input_types.specs.declared.flags.KittyKeyboardFlags.{KittyKeyboardFlags}
use Rattle.settings.specs.declared.settings.Settings.{Settings}
use Rattle.settings.specs.Numbers.{NoRow}
use Rattle.settings.specs.Rows.{stacks_of, screen_number}
use Rattle.wire.specs.declared.page.Page.{Page}
use Rattle.wire.specs.declared.ring.Ring.{Ring}
use Rattle.wire.specs.Waiting.{page_waiting, ring_waiting}
use Rattle.plain_seat.specs.Reading.{View}
use Rattle.seat.specs.declared.seat.Seat.{Seat}
use Rattle.seat_state.specs.declared.known.AnyLayout.{AnyLayout}
use Rattle.seat_state.specs.declared.known.AnyDialect.{AnyDialect}
use Rattle.seat_state.specs.declared.kept.Kept.{Kept}
use Rattle.seat_state.specs.declared.kept.RingState.{RingState}
use Rattle.seat_state.specs.declared.kept.PageState.{PageState}
use Rattle.seat_state.specs.Known.{layout_number, base_in, dialect_number, bytes_in}

abbrev pub RingSeat : Type 0
RingSeat = Seat Ring AnyLayout AnyDialect

abbrev pub PageSeat : Type 0
PageSeat = Seat Page AnyLayout AnyDialect

-- The numbers in the places of a row.
abbrev pub bits : List KittyKeyboardFlags → List ℕ
bits = map (λ f. f.bits)

-- The numbers are those of a layout, a dialect and settings.
pub record Keeps (k : Kept) (l : AnyLayout) (d : AnyDialect) (s : Settings) : Type 0 where
  pub layout : k.layout ≡ layout_number l
  pub dialect : k.dialect ≡ dialect_number d
  pub shown : k.shown ≡ screen_number s.shown
  pub held : map (λ r. r.held) s.rows ≡ k.main_held ∷ k.alternate_held ∷ []
  pub numbers : map (λ r. bits r.settings) s.rows ≡ k.main ∷ k.alternate ∷ []

-- There is no such layout, dialect, screen or row.
abbrev pub NoSeat : Kept → Type 0
NoSeat k = (2 ≤ k.layout) ⊎ (2 ≤ k.dialect) ⊎ (2 ≤ k.shown) ⊎ NoRow k.main k.main_held ⊎ NoRow k.alternate k.alternate_held

pub record KeepsRing (k : RingState) (s : RingSeat) : Type 0 where
  pub kept : Keeps k.kept s.layout s.dialect s.settings
  pub head : k.head ≡ s.wire.head
  pub count : k.count ≡ s.wire.len
  pub table : k.table ≡ s.wire.table

-- A ring has 4096 bytes: its oldest stands at one of them, and no more wait.
abbrev pub NoRing : RingState → Type 0
NoRing k = NoSeat k.kept ⊎ (4096 ≤ k.head) ⊎ (4096 < k.count)

pub record KeepsPage (k : PageState) (page : List ℕ) (s : PageSeat) : Type 0 where
  pub kept : Keeps k.kept s.layout s.dialect s.settings
  pub count : k.count ≡ s.wire.len
  pub page_is : page ≡ s.wire.buffer.now

-- No more bytes wait than the page has.
abbrev pub NoPage : PageState → List ℕ → Type 0
NoPage k page = NoSeat k.kept ⊎ (length page < k.count)

abbrev pub ring_view : RingSeat → View
ring_view s =
    record {
      terms = record { base = base_in s.layout; bytes = bytes_in s.dialect; capacity = 4096 };
      waiting = ring_waiting s.wire;
      stacks = stacks_of s.settings;
    }

abbrev pub page_view : PageSeat → View
page_view s =
    record {
      terms = record { base = base_in s.layout; bytes = bytes_in s.dialect; capacity = length s.wire.buffer.now };
      waiting = page_waiting s.wire;
      stacks = stacks_of s.settings;
    }
