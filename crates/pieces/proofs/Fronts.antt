-- Tests for a front of given bytes.
use Rattle.std.proofs.Common.{◌≡◌, ℕ, Bool, false, List, ◌++◌, nat_eq, sym}
use Rattle.std.specs.List.{starts_with}
use Rattle.std.proofs.lemmas.Slice.Eq.{starts_is}
use Rattle.std.proofs.lemmas.Bool.{both_ways}
use Rattle.std.proofs.lemmas.Bool.Decides.{Decides-eqb}

-- a test for a front that failed
pub fails : (s p : List ℕ) (r : Bool) → r ≡ starts_with nat_eq s p → r ≡ false → (v : List ℕ) → p ++ v ≡ s → ⊥
fails s p r m e v h = both_ways r e ((starts_is Decides-eqb s p r m).1 v (sym h))
