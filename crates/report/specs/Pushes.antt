-- One character more at the end of a text of at most 32.
use Rattle.std.specs.Prelude.{◌≡◌, ℕ, ◌+◌, ◌<◌, ◌≤◌, Bool, true, false, List, [], ◌∷◌, ◌++◌}

-- the counts and the characters before and after, by whether there was room
abbrev pub Pushed : ℕ → ℕ → List ℕ → ℕ → List ℕ → Bool → Type 0
Pushed c n cs m ds true = (n < 32) × (m ≡ n + 1) × (ds ≡ cs ++ c ∷ [])
Pushed c n cs m ds false = (32 ≤ n) × (m ≡ n) × (ds ≡ cs)
