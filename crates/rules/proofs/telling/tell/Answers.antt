use Rattle.std.proofs.Common.{sym, subst}
use Rattle.report.specs.Meanings.{Clear}
use Rattle.events.specs.Passed.{event_of}
use Rattle.rules.specs.Laws.{IfTold, Own, Lawful}
use Rattle.rules.proofs.Clearness.{told_clear}
use Rattle.rules.proofs.Numbers.{own_number}
use Rattle.rules.proofs.telling.tell.Goals as goal

pub returns : goal.returns
returns g c =
    let b = g.L.Layout.base c.args.layout.now in
    let laws : Lawful (g.L.Layout.base c.args.layout.now) = record { settled = g.met.L.Layout.settled c.args.layout.now; kept = g.met.L.Layout.kept c.args.layout.now } in
    let e = event_of c.args.key in
    let said = sym c.first_said.ensures in
    record {
      value = c.first_said.ensures;
      clear = λ d. subst (IfTold Clear) said (told_clear b c.args.flags.bits e d);
      own = λ k h. subst (IfTold (Own b)) said (own_number b c.args.flags.bits e k laws c.args.key.passed h);
    }
