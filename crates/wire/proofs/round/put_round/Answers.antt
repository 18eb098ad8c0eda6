use Rattle.std.proofs.Common.{arith, ◌+◌, ◌%◌, refl, sym, take-append-drop}
use Rattle.wire.proofs.Rounds.{ringed_put}
use Rattle.wire.proofs.round.put_round.Goals as goal

pub returns-clause-after : goal.returns-clause-after
returns-clause-after c =
    let t = c.args.table.now in
    let bytes = c.args.bytes.now in
    let put = ringed_put t c.args.head c.args.len c.told-table c.requires.begins c.split_at.result.0.now c.split_at.result.1.now bytes (rw (c.split_at.ensures.front, c.split_at.ensures.back) (sym (take-append-drop _ bytes))) c.requires.room ((c.args.head + c.args.len) % 4096) refl (grind (arith, c.split_at.ensures.front_len)) in
    rw c.write.ensures put
