use Rattle.std.proofs.Common.{◌≡◌, ◌≤◌, true, length, Some, refl, sym, ap, ◌∙◌, subst, arith}
use Rattle.events.specs.Events.{plain_event}
use Rattle.events.specs.Passed.{event_of}
use Rattle.events.specs.Faults.{faultless}
use Rattle.rules.specs.Rules.{plain_text, tells}
use Rattle.encoding.specs.Sent.{bytes_told, sent}
use Rattle.encoding.proofs.encode_text.Goals as goal

pub returns : goal.returns
returns g c = λ base.
    let bytes = g.D.Dialect.bytes c.args.dialect.now in
    let m = plain_text c.in_ok-c.c in
    let same : event_of c.in-Ok.key ≡ plain_event c.args.event.now = ap plain_event c.in-Ok.ensures in
    let said : tells base c.args.flags.bits (plain_event c.args.event.now) ≡ Some m = subst (λ e. tells base c.args.flags.bits e ≡ Some m) same (c.in_ok-c.ensures.told base) in
    let is : sent base bytes c.args.flags.bits (plain_event c.args.event.now) ≡ bytes m = ap (bytes_told bytes) said in
    let sized = g.met.D.Dialect.sized c.args.dialect.now m c.in_ok-c.c.is in
    record {
      passed = subst (λ e. faultless e ≡ true) same c.in-Ok.key.passed;
      count = c.write.ensures.count ∙ ap length (sym is);
      within = omega (arith, sized.1, c.write.ensures.count);
      row = c.write.ensures.after ∙ rw is refl;
    }
