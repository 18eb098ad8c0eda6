use Rattle.std.proofs.Common.{rules}
use Rattle.seat.proofs.Turns.{goes}
use Rattle.seat.proofs.seat.Seat.set.Goals as goal

pub returns-in_err-given-clause-reading : goal.returns-in_err-given-clause-reading
returns-in_err-given-clause-reading g c = goes (g.met.L.Layout.settled _) (g.met.L.Layout.kept _) (g.met.D.Dialect.sized _) (g.met.D.Dialect.apart _) (search rules)

pub returns-in_err-mode-clause-reading : goal.returns-in_err-mode-clause-reading
returns-in_err-mode-clause-reading g c = goes (g.met.L.Layout.settled _) (g.met.L.Layout.kept _) (g.met.D.Dialect.sized _) (g.met.D.Dialect.apart _) (search rules)

pub returns-clause-reading : goal.returns-clause-reading
returns-clause-reading g c = goes (g.met.L.Layout.settled _) (g.met.L.Layout.kept _) (g.met.D.Dialect.sized _) (g.met.D.Dialect.apart _) (search rules)
