-- The parts of a sequence, for the results of readers.
use Rattle.std.proofs.Common.{◌≡◌, ℕ, ◌+◌, List, IsErrAnd, Ok, Err, Option, Result, refl}
use Rattle.report.specs.Meanings.{Fields, fields}
use Rattle.pieces.specs.declared.found.Ended.{Ended}
use Rattle.pieces.specs.declared.found.Fault.{Fault}
use Rattle.pieces.specs.declared.found.Fault.TheVariants.{Unknown}
use Rattle.pieces.specs.declared.found.Range.{Range}
use Rattle.pieces.specs.Octets.{Octets, SaysOctet}
use Rattle.pieces.specs.Runs.{Ends}
use Rattle.pieces.proofs.Chains.{Chain, chain_break, chain_on, chain_stop, says_same}
use Rattle.pieces.proofs.Stages as Stages
use Rattle.pieces.proofs.Stages.{Stage}
use Rattle.sequences.specs.declared.told.Told.{Told}
use Rattle.sequences.specs.Parts.{Tells}

module _ {range : Range} {L : List ℕ → Fields → Type 0} {Next : Option ℕ → ℕ → List ℕ → Fields → Type 0} (k : Stage range L Next) (given : List ℕ) (at : ℕ) where
  pub stage_break : (r : Result Told Fault) (e : Fault) → IsErrAnd r (λ x. x ≡ e) → Ends range given at (Err e) → Tells L given at r
  stage_break = Stages.stage_break k (λ t. fields t.sequence) (λ t. t.next) given at

  module _ (e : Ended) (p : Ends range given at (Ok e)) where
    pub stage_goes : (o : Option ℕ) (b : ℕ) → e.value ≡ o → e.mark ≡ b → (r : Result Told Fault) → Tells (Next o b) given e.next r → Tells L given at r
    stage_goes = Stages.stage_goes k (λ t. fields t.sequence) (λ t. t.next) given at e p

    pub stage_stops : (o : Option ℕ) → e.value ≡ o → ((m : Fields) (s : List ℕ) → Next o e.mark s m → ⊥) → Tells L given at (Err Unknown)
    stage_stops = Stages.stage_stops k (λ (t : Told). fields t.sequence) (λ t. t.next) given at e p

module _ {L : List ℕ → Fields → Type 0} {Next : ℕ → List ℕ → Fields → Type 0} (k : Chain Octets L Next) (given : List ℕ) (at : ℕ) where
  pub octet_break : (r : Result Told Fault) (e : Fault) → IsErrAnd r (λ x. x ≡ e) → SaysOctet given at (Err e) → Tells L given at r
  octet_break = chain_break k (λ (b : ℕ). b) (λ _. at + 1) (λ t. fields t.sequence) (λ t. t.next) given at

  module _ (b : ℕ) (p : SaysOctet given at (Ok b)) where
    pub octet_goes : (r : Result Told Fault) → Tells (Next b) given (at + 1) r → Tells L given at r
    octet_goes = chain_on k (λ (b : ℕ). b) (λ _. at + 1) (λ t. fields t.sequence) (λ t. t.next) given at b p b refl

    pub octet_stops : ((m : Fields) (s : List ℕ) → Next b s m → ⊥) → Tells L given at (Err Unknown)
    octet_stops = chain_stop k (λ (b : ℕ). b) (λ _. at + 1) (λ (t : Told). fields t.sequence) (λ t. t.next) given at b p b refl

pub tells_same : (K L : List ℕ → Fields → Type 0) → ((m : Fields) (s : List ℕ) → K s m → L s m) → ((m : Fields) (s : List ℕ) → L s m → K s m) → (given : List ℕ) (at : ℕ) (r : Result Told Fault) → Tells K given at r → Tells L given at r
tells_same = says_same (λ t. fields t.sequence) (λ t. t.next)
