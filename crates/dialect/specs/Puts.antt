-- What a row of bytes holds after some were put into it, one after another.
use Rattle.std.specs.Prelude.{◌≡◌, ℕ, ◌+◌, ◌<◌, ◌≤◌, List, [], ◌∷◌, length, slice_set}
use Rattle.dialect.specs.declared.pen.Pen.{Pen}

-- the row after the bytes were put from the place `at` on
abbrev pub puts : List ℕ → ℕ → List ℕ → List ℕ
puts out at [] = out
puts out at (b ∷ bs) = puts (slice_set out at b) (at + 1) bs

-- the bytes were put from `at` on, which made the row `after`, and the next place is `next`
pub record Wrote (before : List ℕ) (at : ℕ) (bytes : List ℕ) (after : List ℕ) (next : ℕ) : Type 0 where
  pub place : next ≡ at + length bytes
  pub row : after ≡ puts before at bytes

-- the same for a row of 512 bytes, in which nothing is put where the bytes would pass its end
pub record Put (before : List ℕ) (at : ℕ) (bytes : List ℕ) (after : List ℕ) (next : ℕ) : Type 0 where
  pub fits : at + length bytes ≤ 512 → Wrote before at bytes after next
  pub passes : 512 < at + length bytes → (after ≡ before) × (next ≡ at)

-- a pen put the bytes into its row, and goes on behind them
pub record Writes (before : Pen) (bytes : List ℕ) (after : Pen) : Type 0 where
  pub wrote : Wrote before.out.now before.at bytes after.out.now after.at
  pub same_row : after.out.ghost_name ≡ before.out.ghost_name
