use Rattle.std.proofs.Common.{◌≡◌, min, length, take, drop, arith, take-append-drop, length-take}
use Rattle.script.proofs.Scripts.{drain_front}
use Rattle.script.proofs.make.Goals as goal

pub returns-in-Drain : goal.returns-in-Drain
returns-in-Drain g c =
    let n = c.min-n.result in
    let before = c.args.buffer.now in
    let size : length (take n before) ≡ min c.in-Drain.room (length before) = (let e = c.min-n.ensures in rw length-take (omega arith)) in
    let k = drain_front _ _ c.args.call.now before (take n before) (drop n before) _ c.drain.result c.in-Drain.room c.in-Drain.is (take-append-drop n before) size c.drain.ensures.steps c.drain.ensures.reading c.drain.ensures.rest in
    record { steps = k.steps; reading = k.reading; rest = k.rest; room = k.room; keeps = c.drain.ensures.keeps }
