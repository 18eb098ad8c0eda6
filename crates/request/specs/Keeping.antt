-- What a caller keeps of a reader: the numbers of its state.
use Rattle.std.specs.Prelude.{ℕ, ◌+◌, ◌<◌, ◌≤◌, ◌⊎◌, Some, None, Option}
use Rattle.request.specs.declared.State.{State}
use Rattle.request.specs.declared.State.TheVariants as S
use Rattle.request.specs.declared.resuming.Kept.{Kept}

abbrev pub kept_as : ℕ → ℕ → ℕ → Kept
kept_as stage number flags = record { stage = stage; number = number; flags = flags }

-- 0 where no digit came, else the number and one
abbrev pub digits_as : Option ℕ → ℕ
digits_as None = 0
digits_as (Some n) = n + 1

abbrev pub kept_of : State → Kept
kept_of S.Start = kept_as 0 0 0
kept_of S.Escape = kept_as 1 0 0
kept_of S.Bracket = kept_as 2 0 0
kept_of S.Query = kept_as 3 0 0
kept_of (S.Push n) = kept_as 4 (digits_as n) 0
kept_of (S.Pop n) = kept_as 5 (digits_as n) 0
kept_of (S.Set n) = kept_as 6 (digits_as n) 0
kept_of (S.Mode f n) = kept_as 7 (digits_as n) f

-- No reader is kept as these numbers: the stage is unknown, a number has more than sixteen bits, or one stands where
-- none is read.
abbrev pub NoReader : Kept → Type 0
NoReader k =
    (8 ≤ k.stage) ⊎ (65536 < k.number) ⊎ (65536 ≤ k.flags) ⊎ ((k.stage < 4) × (0 < k.number)) ⊎ ((k.stage < 7) × (0 < k.flags))
