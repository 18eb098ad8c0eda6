-- A table is a list of pairs; the first pair that begins with a number, or with a name, says what stands beside it.
use Rattle.std.specs.Prelude.{◌≡◌, ℕ, Bool, true, cond, not, ◌&&◌, List, [], ◌∷◌, is_some, Some, None, Option, ◌==◌}
use Rattle.std.specs.List.{AllByRecursion}
use Rattle.std.specs.Str.{bytes_eq}

abbrev pub beside : {A : Type 0} → List (ℕ × A) → ℕ → Option A
beside [] n = None
beside (e ∷ es) n = cond (n == e.0) (Some e.1) (beside es n)

abbrev pub bears : {A : Type 0} → List (List ℕ × A) → List ℕ → Option A
bears [] s = None
bears (e ∷ es) s = cond (bytes_eq e.0 s) (Some e.1) (bears es s)

-- the first name of a table that stands for a value of this number
abbrev pub name_for : {A : Type 0} → (A → ℕ) → List (List ℕ × A) → ℕ → Option (List ℕ)
name_for number [] n = None
name_for number (e ∷ es) n = cond (number e.1 == n) (Some e.0) (name_for number es n)

-- no two pairs begin with one name
abbrev pub apart : {A : Type 0} → List (List ℕ × A) → Bool
apart [] = true
apart (e ∷ es) = not (is_some (bears es e.0)) && apart es

-- no two pairs begin with one name, so each pair's name finds what stands beside it
pub record Table {A : Type 0} (es : List (List ℕ × A)) : Type 0 where
  pub names : apart es ≡ true
  pub each : AllByRecursion (λ e. bears es e.0 ≡ Some e.1) es
