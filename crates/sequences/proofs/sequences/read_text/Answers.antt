use Rattle.std.proofs.Common.{◌<◌, ◌≤◌, length, Some, Err, refl, subst, arith}
use Rattle.report.specs.declared.text.Text.{Text}
use Rattle.report.specs.Meanings.{characters}
use Rattle.report.proofs.Rows.{length-characters}
use Rattle.pieces.specs.declared.found.Fault.TheVariants.{Unknown}
use Rattle.pieces.specs.declared.found.Range.TheVariants.{Code}
use Rattle.pieces.proofs.Stages.{Stage}
use Rattle.sequences.specs.Leads.{Lead, lead}
use Rattle.sequences.proofs.Heads.{started}
use Rattle.sequences.specs.Parts.{AtText, Started, Tells, after_character}
use Rattle.sequences.proofs.Telling.{stage_break, stage_goes, stage_stops}
use Rattle.sequences.proofs.TextLaws.{pushed, text_stage, text_full, text_none, text_strange}
use Rattle.sequences.proofs.sequences.read_text.Goals as goal

-- the next character of a text that has room
next : (h : Lead) (t : Text) → Started h → t.count < 32 → Stage Code (AtText h (characters t)) (after_character h (characters t))
next h t a l = text_stage h (characters t) a t.characters (omega (arith, length-characters t))

pub returns-in_err-e : goal.returns-in_err-e
returns-in_err-e c =
    let v = c.loop.invariant in
    let l : c.loop.text.count < 32 = omega (arith, v.0) in
    v.1 c.from_residual.result (stage_break (next (lead c.args.head) c.loop.text (started c.args.head) l) c.args.bytes.now c.loop.next c.from_residual.result c.in_err-e.field-0.0 c.from_residual.ensures.1 c.in_err-e.ensures)

pub returns-in_default : goal.returns-in_default
returns-in_default c =
    let v = c.loop.invariant in
    let l : c.loop.text.count < 32 = omega (arith, v.0) in
    let e = c.in_ok-e.e in
    v.1 (Err Unknown) (stage_stops (next (lead c.args.head) c.loop.text (started c.args.head) l) c.args.bytes.now c.loop.next e c.in_ok-e.ensures e.value refl (text_strange (lead c.args.head) (characters c.loop.text) e.value e.mark c.in_default.ensures))

pub returns-in_default-mark : goal.returns-in_default-mark
returns-in_default-mark c =
    let v = c.loop.invariant in
    let l : c.loop.text.count < 32 = omega (arith, v.0) in
    let e = c.in_ok-e.e in
    v.1 (Err Unknown) (stage_stops (next (lead c.args.head) c.loop.text (started c.args.head) l) c.args.bytes.now c.loop.next e c.in_ok-e.ensures (Some c.in-Some.c) c.in-Some.ensures.0 (text_none (lead c.args.head) (characters c.loop.text) c.in-Some.c e.mark (λ z. omega arith) (λ z. omega arith)))

pub loop-preserved : goal.loop-preserved
loop-preserved c =
    let v = c.loop.invariant in
    let l : c.loop.text.count < 32 = omega (arith, v.0) in
    let h = lead c.args.head in
    let e = c.in_ok-e.e in
    let cs = characters c.loop.text in
    let q = pushed c.in-Some.c c.loop.text.count c.push.new.self.count cs (characters c.push.new.self) c.push.result l c.push.ensures in
    (omega (arith, q.0, v.0), λ r p. v.1 r (stage_goes (next h c.loop.text (started c.args.head) l) c.args.bytes.now c.loop.next e c.in_ok-e.ensures (Some c.in-Some.c) 58 c.in-Some.ensures.0 c.in-58.is r (subst (λ ds. Tells (AtText h ds) c.args.bytes.now e.next r) q.1 p)))

pub returns : goal.returns
returns c =
    let v = c.loop.invariant in
    let full : 32 ≤ length (characters c.loop.text) = omega (arith, v.0, length-characters c.loop.text) in
    v.1 (Err Unknown) (λ m s t u i e. text_full (lead c.args.head) (characters c.loop.text) full m s i)
