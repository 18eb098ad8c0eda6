use Rattle.std.proofs.Common.{sym, subst, ◌∙◌}
use Rattle.seat_c.specs.Keys.{KeyOverRing}
use Rattle.seat_c.proofs.ring.seat_ring_key.Goals as goal

pub returns-in-Some : goal.returns-in-Some
returns-in-Some c =
    subst (λ e. KeyOverRing e c.args.state.now c.ring_ask.result c.ring_ask.new.state) (sym c.in-Some.is ∙ c.event_by.ensures) c.ring_ask.ensures
