use Rattle.std.proofs.Common.{◌≡◌, map, length, arith, sym, ap, ◌∙◌, length-set}
use Rattle.std.proofs.lemmas.List.{take_all}
use Rattle.settings.proofs.Listed.{listed_more}
use Rattle.settings.proofs.resuming.listed.Goals as goal

pub loop-i-preserved : goal.loop-i-preserved
loop-i-preserved c =
    let h = c.loop-i.invariant in
    let size : length c.args.numbers.now ≡ 8 = c.told-numbers in
    let within = c.loop-i-test.true in
    record {
      same = listed_more (λ f. f.bits) c.loop-i.all c.args.numbers.now c.loop-i.i c.in_ok-all.field-0 0 (omega arith) (omega arith) (c.in_ok-all.ensures ∙ c.from.ensures) h.same;
      size = length-set c.loop-i.all c.loop-i.i c.in_ok-all.field-0 ∙ h.size;
    }

pub returns : goal.returns
returns c =
    let h = c.loop-i.invariant in
    let end = c.loop-i-test.false in
    let size : length c.args.numbers.now ≡ 8 = c.told-numbers in
    sym (ap (map (λ f. f.bits)) (take_all c.loop-i.i c.loop-i.all (omega arith))) ∙ h.same ∙ take_all c.loop-i.i c.args.numbers.now (omega arith)
