use Rattle.std.proofs.Common.{◌+◌, decimal, sym, ap, ◌∙◌, arith}
use Rattle.report.specs.Letters.{spelled}
use Rattle.dialect.proofs.Typing.{typed_more, mark_next, inside, next_is, behind_is}
use Rattle.dialect.proofs.Writing.{writes_as, writes_more}
use Rattle.dialect.proofs.kitty.put_typed.Goals as goal

pub loop-preserved : goal.loop-preserved
loop-preserved c =
    let cs = spelled c.args.letters.spelling in
    let i = c.loop.counter in
    let rest = spelled c.in-Some.behind.spelling in
    let h = sym c.loop.invariant.behind ∙ c.in-Some.ensures in
    let within = inside cs i c.in-Some.c rest h in
    let item = sym (next_is cs i c.in-Some.c rest h) in
    let all = writes_more c.loop.invariant.wrote (writes_more c.byte.ensures (writes_as (ap decimal item) c.code.ensures.wrote)) in
    record {
      near = omega (arith, c.loop.invariant.near, c.byte.ensures.wrote.place, c.code.ensures.near);
      mark = sym (mark_next cs (i + 1) (omega arith) (omega (arith, within)));
      behind = sym (behind_is cs i c.in-Some.c rest h);
      wrote = writes_as (typed_more cs i c.loop.mark within c.loop.invariant.mark) all;
    }
