use Rattle.std.proofs.Common.{[], subst}
use Rattle.seat_state.specs.Calls.{PageAnswers}
use Rattle.seat_state.proofs.Leaving.{no_bytes}
use Rattle.seat_state.proofs.calls.page_ask.Goals as goal

pub returns : goal.returns
returns c =
    subst (λ bs. PageAnswers c.args.state.now c.args.page.now c.args.call.now [] c.page_call.result bs c.page_call.new.state c.page_call.new.page) (no_bytes c.page_call.new.buffer c.page_call.auto.buffer) c.page_call.ensures
