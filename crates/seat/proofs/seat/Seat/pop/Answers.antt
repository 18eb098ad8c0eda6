use Rattle.std.proofs.Common.{rules}
use Rattle.seat.proofs.Turns.{goes}
use Rattle.seat.proofs.seat.Seat.pop.Goals as goal

pub returns-then-n-eq0-clause-reading : goal.returns-then-n-eq0-clause-reading
returns-then-n-eq0-clause-reading g c = goes (g.met.L.Layout.settled _) (g.met.L.Layout.kept _) (g.met.D.Dialect.sized _) (g.met.D.Dialect.apart _) (search rules)

pub returns-clause-reading : goal.returns-clause-reading
returns-clause-reading g c = goes (g.met.L.Layout.settled _) (g.met.L.Layout.kept _) (g.met.D.Dialect.sized _) (g.met.D.Dialect.apart _) (search rules)
