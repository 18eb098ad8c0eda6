use Rattle.std.proofs.Common.{Ok, Err, sym, ap, ◌∙◌, arith}
use Rattle.std.proofs.lemmas.Result.{err_from_is_err_and}
use Rattle.std.specs.Str.Iter.{split_has_more, split_text}
use Rattle.modifier_names.proofs.Parts.{less, turn}
use Rattle.modifier_names.proofs.reading.modifiers_of.Goals as goal

pub loop-part-preserved : goal.loop-part-preserved
loop-part-preserved c =
    let i = c.loop-part.invariant in
    let h = c.in-Some.ensures.steps in
    let w = split_text c.loop-part.part-iterator in
    let more = split_has_more c.next.new.self in
    let rest = split_text c.next.new.self in
    let cut = rw i.bar at h.1.1 in
    let s = turn w c.in-Some.part.now more rest c.loop-part.from c.loop-part.bits (Ok c.in_ok-bits.field-0) c.in_ok-bits.ensures cut in
    record {
      told = sym s ∙ (rw (← h.0) at i.told);
      within = λ l. omega (arith, less w c.in-Some.part.now more rest cut l, i.within (sym h.0));
      bar = h.1.0 ∙ i.bar;
    }

pub returns-in_err-bits : goal.returns-in_err-bits
returns-in_err-bits c =
    let i = c.loop-part.invariant in
    let h = c.in-Some.ensures.steps in
    let cut = rw i.bar at h.1.1 in
    let s = turn (split_text c.loop-part.part-iterator) c.in-Some.part.now (split_has_more c.next.new.self) (split_text c.next.new.self) c.loop-part.from c.loop-part.bits (Err c.in_err-bits.field-0.0) c.in_err-bits.ensures cut in
    let r = err_from_is_err_and c.from_residual.result c.from_residual.ensures.1 in
    r.1 ∙ ap Err r.2 ∙ sym s ∙ (rw (← h.0) at i.told)
