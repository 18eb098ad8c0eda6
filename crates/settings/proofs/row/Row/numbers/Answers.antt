use Rattle.std.proofs.Common.{◌≡◌, map, length, arith, sym, ap, ◌∙◌, length-set}
use Rattle.std.proofs.lemmas.List.{take_all}
use Rattle.settings.proofs.Listed.{told_more}
use Rattle.settings.proofs.row.Row.numbers.Goals as goal

pub loop-i-preserved : goal.loop-i-preserved
loop-i-preserved c =
    let h = c.loop-i.invariant in
    let within = c.loop-i-test.true in
    let size : length c.args.self.now.settings ≡ 8 = omega arith in
    record {
      same = told_more (λ f. f.bits) c.loop-i.numbers c.args.self.now.settings c.loop-i.i c.bits.result c.flags-item.result (omega arith) (omega arith) c.bits.ensures h.same;
      size = length-set c.loop-i.numbers c.loop-i.i c.bits.result ∙ h.size;
    }

pub returns : goal.returns
returns c =
    let h = c.loop-i.invariant in
    let end = c.loop-i-test.false in
    let size : length c.args.self.now.settings ≡ 8 = omega arith in
    sym (take_all c.loop-i.i c.loop-i.numbers (omega arith)) ∙ h.same ∙ ap (map (λ f. f.bits)) (take_all c.loop-i.i c.args.self.now.settings (omega arith))
