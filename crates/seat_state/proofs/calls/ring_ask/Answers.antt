use Rattle.std.proofs.Common.{[], subst}
use Rattle.seat_state.specs.Calls.{RingAnswers}
use Rattle.seat_state.proofs.Leaving.{no_bytes}
use Rattle.seat_state.proofs.calls.ring_ask.Goals as goal

pub returns : goal.returns
returns c =
    subst (λ bs. RingAnswers c.args.state.now c.args.call.now [] c.ring_call.result bs c.ring_call.new.state) (no_bytes c.ring_call.new.buffer c.ring_call.auto.buffer) c.ring_call.ensures
