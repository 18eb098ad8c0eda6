-- Labels one after another, and the room that they take.
use Rattle.std.proofs.Common.{◌≡◌, ℕ, ◌+◌, ◌<◌, ◌≤◌, cond, List, [], length, get_or, drop, refl}
use Rattle.std.proofs.lemmas.List.{drop_all, drop_more}
use Rattle.input_types.specs.Bits.{holds}
use Rattle.tables.specs.declared.Named.{Named}
use Rattle.tables.specs.Entries.{entries}
use Rattle.name_writing.specs.Labels.{labels, room, with_label}

-- what a read past the table's end would give
abbrev blank : Named ℕ
blank = (record { ref_ptr = (0, 0); now = [] }, 0)

module _ (t : List (Named ℕ)) (i : ℕ) where
  pub step : (bits : ℕ) (text : List ℕ) → i < length t → labels (entries (drop i t)) bits text ≡ labels (entries (drop (i + 1) t)) bits (cond (holds bits (get_or t i blank).1) (with_label (get_or t i blank).0.now text) text)
  step bits text h = rw (drop_more t i blank h) refl

  pub room_step : i < length t → room (entries (drop i t)) ≡ (length (get_or t i blank).0.now + 1) + room (entries (drop (i + 1) t))
  room_step h = rw (drop_more t i blank h) refl

  pub end : (bits : ℕ) (text : List ℕ) → length t ≤ i → labels (entries (drop i t)) bits text ≡ text
  end bits text h = rw (drop_all i t h) refl
