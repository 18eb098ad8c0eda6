use Rattle.std.proofs.Common.{ap, inr, take, ◌∙◌, rules}
use Rattle.seat_state.specs.Known.{layout_number, dialect_number}
use Rattle.seat_state.specs.Over.{over}
use Rattle.seat_state.proofs.opening.page_open.Goals as goal

pub returns : goal.returns
returns c =
    let o = c.open_over-upper.ensures in
    let k = c.of.ensures in
    inr (record {
      seat = over c.open_over-upper.new.wire c.open_over-upper.result;
      kept = record { kept = k.kept; count = k.count; page_is = search rules };
      same = search rules;
      layout_is = ap layout_number o.layout ∙ c.in-Ok.ensures;
      dialect_is = ap dialect_number o.dialect ∙ c.in-Ok-try_from.ensures;
      reading = o.reading (ap (λ n. take n c.new-wire.result.buffer.now) c.new-wire.ensures.empty);
      answer = c.done.ensures;
    })
