use Rattle.std.proofs.Common.{◌≡◌, ℕ, ◌+◌, [], ◌∷◌, ◌++◌, length, drop, sym, ap, ◌∙◌, subst}
use Rattle.std.proofs.lemmas.Slice.Eq.{starts_is}
use Rattle.pieces.specs.Languages.{Takes, nothing}
use Rattle.pieces.proofs.Fronts.{fails}
use Rattle.pieces.proofs.Chains.{chain_break}
use Rattle.frame_reading.specs.declared.found.Body.{Body}
use Rattle.frame_reading.specs.Heads.{Heads, head_of}
use Rattle.frame_reading.proofs.HeadLaws.{length-chain, head_part, head_nothing}
use Rattle.frame_reading.proofs.heads.read_head.Goals as goal
use Rattle.std.proofs.lemmas.Bool.Decides.{Decides-eqb}

pub returns-in_err-length : goal.returns-in_err-length
returns-in_err-length c = chain_break length-chain (λ (b : ℕ). b) (λ _. 0 + 1) (λ (b : Body). b) (λ _. 4) c.args.given.now 0 c.from_residual.result c.in_err-length.field-0.0 c.from_residual.ensures.1 c.in_err-length.ensures

pub returns-then-starts_with-2 : goal.returns-then-starts_with-2
returns-then-starts_with-2 c =
    let g = c.args.given.now in
    let b = c.in-Some.body in
    let row = c.in_ok-length.length ∷ 0 ∷ c.kind_of.result ∷ 0 ∷ [] in
    let is : row ≡ head_of b = cc (c.in-Some.ensures.1, c.kind_of.ensures) in
    let e = (starts_is Decides-eqb row g c.starts_with-else-starts_with.result c.starts_with-else-starts_with.ensures.value).0 c.if-starts_with-2.true in
    let none = fails g row c.starts_with.result c.starts_with.ensures.value c.if-starts_with.false in
    head_part b g (drop (length g) row) c.in-Some.ensures.0 (sym e ∙ is) (λ w h. none w (ap (λ x. x ++ w) is ∙ h))

pub returns-else-starts_with-2 : goal.returns-else-starts_with-2
returns-else-starts_with-2 c =
    let g = c.args.given.now in
    let b = c.in-Some.body in
    let row = c.in_ok-length.length ∷ 0 ∷ c.kind_of.result ∷ 0 ∷ [] in
    let is : row ≡ head_of b = cc (c.in-Some.ensures.1, c.kind_of.ensures) in
    let o = c.in_ok-length.ensures.0 in
    let front : c.in_ok-length.length ∷ drop 1 g ≡ g = ap (λ x. x ++ drop 1 g) (sym o.1.1) ∙ o.2 in
    let after = fails g row c.starts_with.result c.starts_with.ensures.value c.if-starts_with.false in
    let before = fails row g c.starts_with-else-starts_with.result c.starts_with-else-starts_with.ensures.value c.if-starts_with-2.false in
    subst (λ x. Takes Heads x nothing) front (head_nothing b c.in_ok-length.length (drop 1 g) c.in-Some.ensures.0 c.in-Some.ensures.1 (λ w h. after w (ap (λ x. x ++ w) is ∙ h ∙ front)) (λ v h. before v (ap (λ x. x ++ v) (sym front) ∙ h ∙ sym is)))
