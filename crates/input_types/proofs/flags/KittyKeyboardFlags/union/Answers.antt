use lib.Bits.{or_lt}
use Rattle.input_types.proofs.flags.KittyKeyboardFlags.union.Goals as goal

pub invariant_of-result : goal.invariant_of-result
invariant_of-result c = record { named = or_lt 5 c.args.self.bits c.args.other.bits c.args.self.named c.args.other.named }
