-- A seat over a wire, from what stands over it.
use Rattle.seat.specs.declared.seat.Seat.{Seat}
use Rattle.seat_state.specs.declared.known.AnyLayout.{AnyLayout}
use Rattle.seat_state.specs.declared.known.AnyDialect.{AnyDialect}
use Rattle.seat_state.specs.declared.kept.Upper.{Upper}

abbrev pub over : {W : Type 0} → W → Upper → Seat W AnyLayout AnyDialect
over w u = record { wire = w; layout = u.layout; dialect = u.dialect; settings = u.settings }
