use Rattle.std.proofs.Common.{◌-◌, arith}
use lib.Bits.{and_le_l}
use Rattle.input_types.proofs.flags.KittyKeyboardFlags.difference.Goals as goal

pub invariant_of-result : goal.invariant_of-result
invariant_of-result c = record { named = omega (arith, and_le_l c.args.self.bits (65535 - c.args.other.bits), c.args.self.named) }
