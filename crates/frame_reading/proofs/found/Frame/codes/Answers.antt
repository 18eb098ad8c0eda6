use Rattle.sequences.specs.Leads.{lead}
use Rattle.std.proofs.Common.{◌≡◌, ◌<◌, ◌≤◌, [], ◌∷◌, ◌++◌, length, drop, Ok, sym, refl, ap, ◌∙◌, subst, arith}
use lib.ListN.{length-replicate}
use Rattle.std.proofs.lemmas.List.{append-nil}
use Rattle.report.specs.declared.report.Report.TheVariants.{Sequence}
use Rattle.report.specs.Meanings.{Sound, characters}
use Rattle.report.proofs.Validity.{valid}
use Rattle.report.proofs.Rows.{length-characters}
use Rattle.pieces.specs.Languages.{Takes, whole}
use Rattle.sequences.specs.Parts.{Tells, filled}
use Rattle.sequences.proofs.TextLaws.{pushed}
use Rattle.frame_reading.specs.declared.found.Rule.TheVariants.{Scalar}
use Rattle.frame_reading.specs.Bodies.{AtCodes, Good}
use Rattle.frame_reading.proofs.BodyLaws.{codes_chain}
use Rattle.frame_reading.proofs.FrameTelling.{quad_break, quad_goes}
use Rattle.frame_reading.proofs.found.Frame.codes.Goals as goal

pub returns-in_err-q : goal.returns-in_err-q
returns-in_err-q c =
    let v = c.loop.invariant in
    let t = c.loop.text in
    let less : length (characters t) < c.args.self.now.count = omega (arith, v.0, length-characters t) in
    v.2 c.from_residual.result (quad_break Scalar (codes_chain c.args.self.now.count (lead c.args.head) c.args.last c.requires.ready (characters t) t.characters less) c.args.self.now.bytes.now c.loop.next c.from_residual.result c.in_err-q.field-0.0 c.from_residual.ensures.1 c.in_err-q.ensures)

pub loop-preserved : goal.loop-preserved
loop-preserved c =
    let v = c.loop.invariant in
    let t = c.loop.text in
    let k = c.args.self.now.count in
    let h = lead c.args.head in
    let l = c.args.last in
    let q = c.in_ok-q.q in
    let less : length (characters t) < c.args.self.now.count = omega (arith, v.0, length-characters t) in
    let few : c.loop.text.count < 32 = omega (arith, v.0, subst (λ n. n ≤ 32) (length-replicate k 0) c.requires.ready.few) in
    let p = pushed c.in-Some.c t.count c.push.new.self.count (characters t) (characters c.push.new.self) c.push.result few c.push.ensures in
    let is : characters c.push.new.self ≡ characters t ++ q.value ∷ [] = p.1 ∙ ap (λ x. characters t ++ x ∷ []) c.in-Some.ensures.value.1 in
    (omega (arith, p.0, v.0), c.in_ok-q.ensures.1, λ r x. v.2 r (quad_goes Scalar (codes_chain k h l c.requires.ready (characters t) t.characters less) c.args.self.now.bytes.now c.loop.next q c.in_ok-q.ensures r (subst (λ ds. Tells (AtCodes k h l ds) c.args.self.now.bytes.now q.next r) is x)))

pub returns : goal.returns
returns c =
    let v = c.loop.invariant in
    let t = c.loop.text in
    let k = c.args.self.now.count in
    let h = lead c.args.head in
    let l = c.args.last in
    let s = c.in-Some-into_sequence.sequence in
    let is = c.in-Some-into_sequence.ensures in
    let n : length (characters t) ≡ c.args.self.now.count = omega (arith, v.0, length-characters t) in
    let rest = drop c.loop.next c.args.self.now.bytes.now in
    let good : Good k (filled h l (characters t)) = (subst Sound is (valid (Sequence s)), n) in
    let w = subst (λ f. Takes (AtCodes k h l (characters t)) rest (whole f rest)) (sym is) ([], (good, (refl, refl, refl, refl, refl), refl, ([], sym (append-nil (characters t)), refl)), refl) in
    v.2 (Ok (record { sequence = s; next = c.loop.next })) (w, v.1)
