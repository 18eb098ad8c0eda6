use Rattle.std.proofs.Common.{rules}
use Rattle.seat.proofs.Turns.{goes}
use Rattle.seat.proofs.seat.Seat.screen.Goals as goal

pub returns-in_err-shown-clause-reading : goal.returns-in_err-shown-clause-reading
returns-in_err-shown-clause-reading g c = goes (g.met.L.Layout.settled _) (g.met.L.Layout.kept _) (g.met.D.Dialect.sized _) (g.met.D.Dialect.apart _) (search rules)

pub returns-clause-reading : goal.returns-clause-reading
returns-clause-reading g c = goes (g.met.L.Layout.settled _) (g.met.L.Layout.kept _) (g.met.D.Dialect.sized _) (g.met.D.Dialect.apart _) (search rules)
