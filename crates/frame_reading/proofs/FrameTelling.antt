-- The parts of a frame, for the results of readers.
use Rattle.std.proofs.Common.{◌≡◌, ℕ, List, IsErrAnd, Ok, Err, Result, refl}
use Rattle.report.specs.Meanings.{Fields, fields}
use Rattle.pieces.specs.declared.found.Fault.{Fault}
use Rattle.pieces.proofs.Chains.{Chain, chain_break, chain_on}
use Rattle.sequences.specs.declared.told.Told.{Told}
use Rattle.sequences.specs.Parts.{Tells}
use Rattle.frame_reading.specs.declared.found.Quad.{Quad}
use Rattle.frame_reading.specs.declared.found.Rule.{Rule}
use Rattle.frame_reading.specs.Quads.{Quads, SaysQuad}

module _ (rule : Rule) {L : List ℕ → Fields → Type 0} {Next : ℕ → List ℕ → Fields → Type 0} (k : Chain (Quads rule) L Next) (given : List ℕ) (at : ℕ) where
  pub quad_break : (r : Result Told Fault) (e : Fault) → IsErrAnd r (λ x. x ≡ e) → SaysQuad rule given at (Err e) → Tells L given at r
  quad_break = chain_break k (λ (q : Quad). q.value) (λ q. q.next) (λ t. fields t.sequence) (λ t. t.next) given at

  pub quad_goes : (q : Quad) → SaysQuad rule given at (Ok q) → (r : Result Told Fault) → Tells (Next q.value) given q.next r → Tells L given at r
  quad_goes q p = chain_on k (λ (q : Quad). q.value) (λ q. q.next) (λ t. fields t.sequence) (λ t. t.next) given at q p q.value refl
