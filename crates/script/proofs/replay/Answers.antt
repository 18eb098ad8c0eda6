use Rattle.std.proofs.Common.{◌≡◌, ◌-◌, length, take, drop, arith, length-drop, take-append-drop, length-take}
use Rattle.script.proofs.Scripts.{going_more}
use Rattle.script.proofs.replay.Goals as goal

pub loop-i-preserved : goal.loop-i-preserved
loop-i-preserved g c =
    let a = c.make-answer.ensures in
    let i = c.loop-i.i in
    let at = c.loop-i.drained in
    let buffer = c.loop-i.buffer in
    let kept : length buffer ≡ length c.args.buffer.now = c.loop-i.auto.buffer in
    let held : length c.loop-i.answers ≡ length c.args.answers.now = c.loop-i.auto.answers in
    let made = c.min-made.ensures in
    let within = c.loop-i-test.true in
    let part = take (length buffer - at) (drop at buffer) in
    let size : length part ≡ length c.args.buffer.now - at = (let n = length-drop at buffer in rw length-take (omega arith)) in
    going_more _ _ _ _ (take c.min-made.result c.args.calls.now) i _ _ c.loop-i.answers c.make-answer.result at c.handed-drained.result _ buffer part (drop (length buffer - at) (drop at buffer)) c.make-answer.new.buffer within (let n = length-take c.min-made.result c.args.calls.now in omega arith) kept size (take-append-drop (length buffer - at) (drop at buffer)) c.make-answer.auto.buffer c.handed-drained.ensures c.loop-i.invariant
    (record { steps = a.steps; reading = a.reading; rest = a.rest; room = a.room })
