use Rattle.std.proofs.Common.{◌≡◌, [], take}
use Rattle.seat.specs.Seats.{view_of}
use Rattle.script.proofs.Scripts.{Going}
use Rattle.script.proofs.replay.Given as goal

abbrev pub invariant-loop-i : goal.invariant-loop-i
invariant-loop-i g l =
    Going (g.W.Wire.waiting l.initial.seat.wire ≡ []) (view_of g.W.Wire g.L.Layout g.D.Dialect l.initial.seat) (view_of g.W.Wire g.L.Layout g.D.Dialect l.seat) (take l.made l.calls) l.i l.initial.answers l.answers l.drained l.initial.buffer l.buffer
