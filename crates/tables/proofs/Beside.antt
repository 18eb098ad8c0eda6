-- A table holds nothing beside a number that none of its pairs begins with.
use Rattle.std.proofs.Common.{◌≡◌, ℕ, List, [], ◌∷◌, None, refl, arith}
use Rattle.std.proofs.lemmas.Bool.Decides.{nat_tests}
use Rattle.tables.specs.Tables.{beside}

-- none of the pairs begins with n
abbrev pub Absent : {A : Type 0} → List (ℕ × A) → ℕ → Type 0
Absent [] n = Unit {0}
Absent (e ∷ es) n = (n ≡ e.0 → ⊥) × Absent es n

pub beside_none : {A : Type 0} (es : List (ℕ × A)) (n : ℕ) → Absent es n → None ≡ beside es n
beside_none [] n h = refl
beside_none (e ∷ es) n h = let rest = beside_none es n h.1 in grind (arith, nat_tests)
