use Rattle.std.proofs.Common.{Ok, inr, sym, arith, rules}
use Rattle.seat_state.specs.Known.{base_in}
use Rattle.seat_c.proofs.encode.Asked.encode_alone.Goals as goal

pub returns : goal.returns
returns c =
    let few = c.in_ok-flags.flags.named in
    let flags = c.in_ok-flags.ensures in
    let sent = c.in_ok-count.ensures (base_in c.in-Ok.field-0) in
    inr (record {
      by = c.in-Ok.field-0;
      in_dialect = c.in-Ok-try_from.dialect;
      event = c.in_ok-event.event;
      outcome = Ok c.in_ok-count.count;
      layout_is = c.in-Ok.ensures;
      dialect_is = c.in-Ok-try_from.ensures;
      flags_are = omega (arith, few, flags);
      event_is = sym c.in_ok-event.ensures;
      answer = c.done.ensures;
      bytes = search (rules, sent, flags);
    })
