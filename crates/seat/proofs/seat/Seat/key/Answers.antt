use Rattle.std.proofs.Common.{◌≡◌, true, ap, ◌∙◌, subst, rules}
use Rattle.events.specs.Events.{plain_event}
use Rattle.events.specs.Passed.{event_of}
use Rattle.events.specs.Faults.{faultless}
use Rattle.rules.specs.Rules.{tells}
use Rattle.seat.specs.Seats.{view_of}
use Rattle.seat.proofs.Turns.{silent, tells_report, goes}
use Rattle.seat.proofs.seat.Seat.key.Goals as goal

pub returns-in_err-key-clause-reading : goal.returns-in_err-key-clause-reading
returns-in_err-key-clause-reading g c = goes (g.met.L.Layout.settled _) (g.met.L.Layout.kept _) (g.met.D.Dialect.sized _) (g.met.D.Dialect.apart _) (search rules)

pub returns-in-None : goal.returns-in-None
returns-in-None g c =
    let v = view_of g.W.Wire g.L.Layout g.D.Dialect c.args.self.now in
    let k = c.in_ok-key.key in
    let e = plain_event c.args.event.now in
    let same : event_of k ≡ e = ap plain_event c.in_ok-key.ensures in
    let s = silent v e (subst (λ x. faultless x ≡ true) same k.passed) c.top-flags.result.bits c.top-flags.ensures c.tell.result (c.tell.ensures.value ∙ ap (tells v.terms.base c.top-flags.result.bits) same) c.in-None.is in
    record { steps = s; reading = goes (g.met.L.Layout.settled _) (g.met.L.Layout.kept _) (g.met.D.Dialect.sized _) (g.met.D.Dialect.apart _) s; keeps = g.W.Wire.still _ }

pub returns-in-Some : goal.returns-in-Some
returns-in-Some g c =
    let v = view_of g.W.Wire g.L.Layout g.D.Dialect c.args.self.now in
    let w = view_of g.W.Wire g.L.Layout g.D.Dialect c.send.new.self in
    let k = c.in_ok-key.key in
    let e = plain_event c.args.event.now in
    let same : event_of k ≡ e = ap plain_event c.in_ok-key.ensures in
    let s = tells_report v e (subst (λ x. faultless x ≡ true) same k.passed) c.top-flags.result.bits c.top-flags.ensures c.tell.result (c.tell.ensures.value ∙ ap (tells v.terms.base c.top-flags.result.bits) same) c.in-Some.report c.in-Some.is w c.send.result c.send.ensures.sent in
    record { steps = s; reading = goes (g.met.L.Layout.settled _) (g.met.L.Layout.kept _) (g.met.D.Dialect.sized _) (g.met.D.Dialect.apart _) s; keeps = c.send.ensures.keeps }
