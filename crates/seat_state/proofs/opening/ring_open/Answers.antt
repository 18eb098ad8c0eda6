use Rattle.std.proofs.Common.{ap, inr, ◌∙◌}
use Rattle.seat_state.specs.Known.{layout_number, dialect_number}
use Rattle.seat_state.proofs.opening.ring_open.Goals as goal

pub returns : goal.returns
returns c =
    let o = c.open.ensures in
    inr (record {
      seat = c.open.result;
      kept = c.of.ensures;
      layout_is = ap layout_number o.layout ∙ c.in-Ok.ensures;
      dialect_is = ap dialect_number o.dialect ∙ c.in-Ok-try_from.ensures;
      reading = o.reading c.new.ensures;
      answer = c.done.ensures;
    })
