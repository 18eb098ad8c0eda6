use Rattle.std.proofs.Common.{rules}
use Rattle.seat.proofs.Turns.{goes}
use Rattle.seat.proofs.seat.Seat.query.Goals as goal

pub returns-clause-reading : goal.returns-clause-reading
returns-clause-reading g c = goes (g.met.L.Layout.settled _) (g.met.L.Layout.kept _) (g.met.D.Dialect.sized _) (g.met.D.Dialect.apart _) (search rules)
