-- Numbers that no row is kept as.
use Rattle.std.specs.Prelude.{ℕ, ◌<◌, ◌≤◌, ◌⊎◌, List, length, slice_index}

-- One of the numbers is no setting's.
abbrev pub Unlisted : List ℕ → Type 0
Unlisted ns = (k : ℕ) × (k < length ns) × (32 ≤ slice_index ns k)

-- A row holds one to eight settings, and each of its eight places has a setting.
abbrev pub NoRow : List ℕ → ℕ → Type 0
NoRow ns held = (held < 1) ⊎ (8 < held) ⊎ Unlisted ns
