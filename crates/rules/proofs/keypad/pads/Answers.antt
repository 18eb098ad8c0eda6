use Rattle.std.proofs.Common.{refl}
use Rattle.rules.proofs.Bounds.{placed}
use Rattle.rules.proofs.keypad.pads.Goals as goal

pub returns : goal.returns
returns c = record { table = refl; placed = placed }
