-- One byte.
use Rattle.std.specs.Prelude.{◌≡◌, ℕ, ◌+◌, ◌≤◌, List, [], ◌∷◌, Result}
use Rattle.pieces.specs.declared.found.Fault.{Fault}
use Rattle.pieces.specs.Says.{Says}

abbrev pub Octets : List ℕ → ℕ → Type 0
Octets s b = (b ≤ 255) × (s ≡ b ∷ [])

abbrev pub SaysOctet : List ℕ → ℕ → Result ℕ Fault → Type 0
SaysOctet given at r = Says Octets (λ b. b) (λ _. at + 1) given at r
