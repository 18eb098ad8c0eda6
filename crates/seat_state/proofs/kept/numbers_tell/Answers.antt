use Rattle.seat_state.proofs.Tells.{one_seat, never_refused, one_page_seat, page_never_refused}
use Rattle.seat_state.proofs.kept.numbers_tell.Goals as goal

pub returns : goal.returns
returns c = record { alone = one_seat; kept = never_refused; page_alone = one_page_seat; page_kept = page_never_refused }
