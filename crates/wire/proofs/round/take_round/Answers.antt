use Rattle.std.proofs.Common.{arith}
use Rattle.wire.proofs.Rounds.{filled_parts, ringed_drop}
use Rattle.wire.proofs.round.take_round.Goals as goal

pub returns-clause-buffer : goal.returns-clause-buffer
returns-clause-buffer c =
    filled_parts c.args.table.now c.args.head c.args.len c.told-table c.requires.begins c.requires.held c.min-n.result c.min-first.result c.args.buffer.now _ _ c.min-n.ensures c.min-first.ensures c.copy_from_slice.ensures.after c.copy_from_slice-2.ensures.after

pub returns-clause-after : goal.returns-clause-after
returns-clause-after c =
    ringed_drop c.args.table.now c.args.head c.args.len c.told-table c.requires.begins c.requires.held c.min-n.result (omega (arith, c.min-n.ensures))
