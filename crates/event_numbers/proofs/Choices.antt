-- The last of several choices by a number.
use Rattle.std.proofs.Common.{◌≡◌, ℕ, cond, ◌==◌, arith}
use Rattle.std.proofs.lemmas.Bool.Decides.{nat_tests}

pub last : {A : Type 0} (k i₁ i₂ i₃ i₄ i₅ i₆ : ℕ) (a₁ a₂ a₃ a₄ a₅ a₆ b : A) → (k ≡ i₁ → ⊥) → (k ≡ i₂ → ⊥) → (k ≡ i₃ → ⊥) → (k ≡ i₄ → ⊥) → (k ≡ i₅ → ⊥) → (k ≡ i₆ → ⊥) → b ≡ cond (k == i₁) a₁ (cond (k == i₂) a₂ (cond (k == i₃) a₃ (cond (k == i₄) a₄ (cond (k == i₅) a₅ (cond (k == i₆) a₆ b)))))
last k i₁ i₂ i₃ i₄ i₅ i₆ a₁ a₂ a₃ a₄ a₅ a₆ b h₁ h₂ h₃ h₄ h₅ h₆ = grind (arith, nat_tests)
