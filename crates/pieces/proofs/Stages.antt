-- Messages that begin with a number, or none, and the byte after it.
use Rattle.std.proofs.Common.{◌≡◌, ℕ, ◌<◌, false, List, [], ◌∷◌, ◌++◌, length, IsErrAnd, Some, None, Ok, Err, Option, Result, sym, refl, ap, ◌∙◌, subst, inl, inr, arith, length-append}
use Rattle.std.specs.Char.{is_ascii_digit}
use Rattle.std.proofs.lemmas.List.{append-nil, append_assoc}
use Rattle.report.specs.Meanings.{Coded}
use Rattle.dialect.specs.KittyBytes.{optional}
use Rattle.dialect.specs.Numbers.{optional_same}
use Rattle.dialect.proofs.StreamLaws.{fronts}
use Rattle.pieces.specs.declared.found.Ended.{Ended}
use Rattle.pieces.specs.declared.found.Fault.{Fault}
use Rattle.pieces.specs.declared.found.Fault.TheVariants.{Unknown}
use Rattle.pieces.specs.declared.found.Range.{Range}
use Rattle.pieces.specs.Languages.{Takes, part}
use Rattle.pieces.specs.Runs.{Run, Runs, Within, Ends, run_of}
use Rattle.pieces.specs.Says.{Says}
use Rattle.pieces.proofs.Chains.{Chain, chain_break, chain_on, chain_stop}
use Rattle.pieces.proofs.DigitLaws.{most_fits}

within_coded : (range : Range) (o : Option ℕ) → Within range o → Coded o
within_coded range None w = tt
within_coded range (Some n) w = omega (arith, w.0, w.1, most_fits range)

run : Option ℕ → ℕ → Run
run o b = record { value = o; mark = b }

runs_same : (range : Range) (a b : Run) (p q t u : List ℕ) → Runs range p a → Runs range q b → p ++ t ≡ q ++ u → (a ≡ b) × (t ≡ u)
unfolding run
runs_same range a b p q t u x y e =
    let f : optional a.value ++ (a.mark ∷ t) ≡ optional b.value ++ (b.mark ∷ u) = sym (append_assoc (optional a.value) (a.mark ∷ []) t) ∙ ap (λ z. z ++ t) (sym x.2) ∙ e ∙ ap (λ z. z ++ u) y.2 ∙ append_assoc (optional b.value) (b.mark ∷ []) u in
    let v = optional_same a.value b.value (a.mark ∷ t) (b.mark ∷ u) (within_coded range a.value x.0) (within_coded range b.value y.0) x.1 y.1 f in
    let m : a.mark ≡ b.mark = cc v.1 in
    let all : run a.value a.mark ≡ run b.value b.mark = cc (v.0, m) in
    (all, cc v.1)

-- given bytes that end before the last byte of ds ++ b end within ds
before_last : (given ds t : List ℕ) (b : ℕ) → 0 < length t → given ++ t ≡ ds ++ (b ∷ []) → (v : List ℕ) × (given ++ v ≡ ds)
before_last given ds t b h e = elim (fronts given ds t (b ∷ []) e) [ inl p ↦ p | inr p ↦ ([], back p.0 p.1) ]
  where
    none : (v : List ℕ) → ds ++ v ≡ given → length v ≡ 0
    none v q =
        let l = simp length-append at (ap length e) in
        let k = simp length-append at (ap length q) in
        omega (arith, l, k)

    back : (v : List ℕ) → ds ++ v ≡ given → given ++ [] ≡ ds
    back [] q = append-nil given ∙ sym q ∙ append-nil ds
    back (x ∷ v) q = let z : length (x ∷ v) ≡ 0 = none (x ∷ v) q in absurd (omega arith)

-- Next says how a message goes on after the number and the byte
pub record Stage {M : Type 0} (range : Range) (L : List ℕ → M → Type 0) (Next : Option ℕ → ℕ → List ℕ → M → Type 0) : Type 0 where
  pub form : (m : M) (s : List ℕ) → L s m → (o : Option ℕ) × (b : ℕ) × (r : List ℕ) × Within range o × (is_ascii_digit b ≡ false) × (s ≡ optional o ++ (b ∷ r)) × Next o b r m
  pub join : (m : M) (o : Option ℕ) (b : ℕ) (r : List ℕ) → Within range o → Next o b r m → L (optional o ++ (b ∷ r)) m
  pub opens : (o : Option ℕ) → Within range o → (m : M) × (b : ℕ) × (r : List ℕ) × L (optional o ++ (b ∷ r)) m

module _ {M : Type 0} {range : Range} {L : List ℕ → M → Type 0} {Next : Option ℕ → ℕ → List ℕ → M → Type 0} (k : Stage range L Next) where
  stage_starts : (given : List ℕ) → Takes (Runs range) given part → Takes L given part
  stage_starts given p =
      let o = p.0.value in
      let v = before_last given (optional o) p.1 p.0.mark p.2 p.3.2 in
      let q = k.opens o p.3.0 in
      let e : optional o ++ (q.1 ∷ q.2) ≡ given ++ (v.0 ++ (q.1 ∷ q.2)) = ap (λ x. x ++ (q.1 ∷ q.2)) (sym v.1) ∙ append_assoc given v.0 (q.1 ∷ q.2) in
      let l : 0 < length (v.0 ++ (q.1 ∷ q.2)) = simp length-append (omega arith) in
      (q.0, v.0 ++ (q.1 ∷ q.2), l, subst (λ x. L x q.0) e q.3)

  pub staged : Chain (Runs range) L (λ r. Next r.value r.mark)
  staged = record {
    same = runs_same range;
    form = λ m s i. (let f = k.form m s i in let r : Run = record { value = f.0; mark = f.1 } in (r, optional f.0 ++ (f.1 ∷ []), f.2, (f.3, f.4, refl), f.5 ∙ sym (append_assoc (optional f.0) (f.1 ∷ []) f.2), f.6));
    join = λ m r p t x i. subst (λ z. L z m) (sym (ap (λ z. z ++ t) x.2 ∙ append_assoc (optional r.value) (r.mark ∷ []) t)) (k.join m r.value r.mark t x.0 i);
    starts = stage_starts;
  }

  -- the same for the results of readers
  module _ {R : Type 0} (value : R → M) (after : R → ℕ) (given : List ℕ) (at : ℕ) where
    pub stage_break : (r : Result R Fault) (e : Fault) → IsErrAnd r (λ x. x ≡ e) → Ends range given at (Err e) → Says L value after given at r
    stage_break = chain_break staged run_of (λ e. e.next) value after given at

    module _ (e : Ended) (p : Ends range given at (Ok e)) where
      -- a number and a byte, after which another reader goes on
      pub stage_goes : (o : Option ℕ) (b : ℕ) → e.value ≡ o → e.mark ≡ b → (r : Result R Fault) → Says (Next o b) value after given e.next r → Says L value after given at r
      unfolding run
      stage_goes o b f g = chain_on staged run_of (λ e. e.next) value after given at e p (run o b) (cc (f, g))

      -- a number and a byte, after which no message goes on
      pub stage_stops : (o : Option ℕ) → e.value ≡ o → ((m : M) (s : List ℕ) → Next o e.mark s m → ⊥) → Says L value after given at (Err Unknown)
      unfolding run
      stage_stops o f h = chain_stop staged run_of (λ e. e.next) value after given at e p (run o e.mark) (cc (f)) h
