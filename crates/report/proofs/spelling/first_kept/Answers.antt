use Rattle.std.proofs.Common.{[], ◌∷◌, sym, ap, ◌∙◌}
use Rattle.std.specs.Str.Iter.{chars_rest}
use Rattle.std.specs.Str.{chars}
use Rattle.report.specs.Letters.{shown}
use Rattle.report.proofs.Kept.{kept, dropped, after, nothing}
use Rattle.report.proofs.spelling.first_kept.Goals as goal

pub returns-then-is_kept : goal.returns-then-is_kept
returns-then-is_kept c =
    let h = c.in-Some.ensures.steps.0 in
    let k = kept [] (chars_rest c.loop-c.rest) (chars_rest c.next.new.self) c.in-Some.c c.loop-c.invariant.1 h (sym c.is_kept.ensures ∙ c.if-is_kept.true) in
    sym c.loop-c.invariant.0 ∙ sym k ∙ ap (λ r. c.in-Some.c ∷ shown (chars r)) (sym c.as_str.ensures)

pub loop-c-preserved : goal.loop-c-preserved
loop-c-preserved c =
    let h = c.in-Some.ensures.steps.0 in
    let bs = chars_rest c.loop-c.rest in
    let rest = chars_rest c.next.new.self in
    (dropped [] bs rest c.in-Some.c c.loop-c.invariant.1 h (sym c.is_kept.ensures ∙ c.if-is_kept.false) ∙ c.loop-c.invariant.0, after [] bs rest c.in-Some.c c.loop-c.invariant.1 h)

pub returns : goal.returns
returns c = sym c.loop-c.invariant.0 ∙ nothing [] (chars_rest c.loop-c.rest) c.in_default.ensures.steps.0.0
