use Rattle.std.proofs.Common.{sym, subst, ◌∙◌}
use Rattle.seat_c.specs.Keys.{KeyOverPage}
use Rattle.seat_c.proofs.page.seat_page_key.Goals as goal

pub returns-in-Some : goal.returns-in-Some
returns-in-Some c =
    subst (λ e. KeyOverPage e c.args.state.now c.args.page.now c.page_ask.result c.page_ask.new.state c.page_ask.new.page) (sym c.in-Some.is ∙ c.event_by.ensures) c.page_ask.ensures
