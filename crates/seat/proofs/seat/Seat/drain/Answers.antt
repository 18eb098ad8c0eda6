use Rattle.std.proofs.Common.{arith}
use Rattle.std.proofs.lemmas.Grind.{common_steps}
use Rattle.seat.proofs.Turns.{goes}
use Rattle.seat.proofs.seat.Seat.drain.Goals as goal

pub returns-clause-reading : goal.returns-clause-reading
returns-clause-reading g c = goes (g.met.L.Layout.settled _) (g.met.L.Layout.kept _) (g.met.D.Dialect.sized _) (g.met.D.Dialect.apart _) (grind (arith, common_steps))
