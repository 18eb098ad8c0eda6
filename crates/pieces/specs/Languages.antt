-- What a reader finds at the front of given bytes. A language says which bytes stand for which message.
use Rattle.std.specs.Prelude.{◌≡◌, ℕ, ◌<◌, List, ◌++◌, length, ◌≢◌}

-- a message and what follows it, a message of which only a part is there, or none
pub data Taken (M : Type 0) : Type 0 where
  whole : M → List ℕ → Taken M
  part : Taken M
  nothing : Taken M

module _ {M : Type 0} (L : List ℕ → M → Type 0) where
  -- `nothing`: no message's bytes begin the given ones, or are begun by them
  abbrev pub Takes : List ℕ → Taken M → Type 0
  Takes given (whole m t) = (s : List ℕ) × L s m × (s ++ t ≡ given)
  Takes given part = (m : M) × (t : List ℕ) × (0 < length t) × L (given ++ t) m
  Takes given nothing = (m : M) (s t u : List ℕ) → L s m → s ++ t ≢ given ++ u
