use Rattle.plain_seat.proofs.Onward.{opening}
use Rattle.seat.proofs.seat.Seat.open.Goals as goal

pub returns-clause-reading : goal.returns-clause-reading
returns-clause-reading g c =
    λ empty. opening _ (record { lawful = record { settled = g.met.L.Layout.settled _; kept = g.met.L.Layout.kept _ }; sized = g.met.D.Dialect.sized _; apart = g.met.D.Dialect.apart _ }) empty c.fresh.ensures
