use Rattle.std.proofs.Common.{◌≡◌, List, ℕ, length, inr, sym, ap, subst, ◌∙◌, arith, rules}
use Rattle.plain_seat.specs.Reading.{Steps}
use Rattle.seat.specs.Seats.{counted}
use Rattle.script.specs.Scripts.{call_of, moved_by}
use Rattle.wire.specs.Pages.{SamePage}
use Rattle.seat_state.specs.declared.kept.PageState.{PageState}
use Rattle.seat_state.specs.Keeping.{PageSeat, KeepsPage, page_view}
use Rattle.seat_state.specs.Over.{over}
use Rattle.seat_state.specs.Calls.{LeavesPage}
use Rattle.seat_state.proofs.Declining.{unchanged}
use Rattle.seat_state.proofs.Leaving.{accepted, declined, page_back, leaves_page, both_stay}
use Rattle.seat_state.proofs.calls.page_call.Goals as goal
use Rattle.seat_state.proofs.calls.page_call.Goals.{then-is_ok, else-is_ok}

pub returns : goal.returns
returns c =
    let m = c.call_over-made.ensures.made in
    let r = c.call_over-made.result in
    let ok = c.is_ok.ensures.value in
    let page = c.args.page.now in
    let wire = c.resume-wire.result in
    let lies : wire.buffer.now ≡ page = ap (λ b. b.now) c.resume-wire.ensures.same in
    let count : c.args.state.now.count ≡ wire.len = (let n = c.resume-wire.ensures.len in let few = c.if-state-page.false in omega arith) in
    let from : PageSeat = over wire c.in-Some.upper in
    let to : PageSeat = over c.call_over-made.new.wire c.call_over-made.new.upper in
    let same : SamePage wire to.wire = c.call_over-made.ensures.keeps in
    let page' = c.if-is_ok.page in
    let size : length page' ≡ length page = c.if-is_ok.auto.page in
    let v = page_view from in
    let u = page_view to in
    let call = c.args.call.now in
    let before = c.args.buffer.now in
    let after = c.call_over-made.new.buffer in
    let k = c.args.state.now in
    let k' = c.if-is_ok.state in
    let old : PageState × List ℕ = (k, page) in
    let new : PageState × List ℕ = (k', page') in
    inr (record {
      from = from;
      to = to;
      outcome = r;
      read = record { kept = c.in-Some.ensures; count = count; page_is = sym lies };
      answer = c.into.ensures;
      made = m;
      left = elim c.if-is_ok.branch [
        | then-is_ok w ↦
            let is : page' ≡ to.wire.buffer.now = search (rules, same, w.page-is) in
            accepted r old new (LeavesPage page k' page' to) (u ≡ v) (sym ok ∙ w.if-is_ok.true) (subst (λ p. LeavesPage p k' page' to) lies (leaves_page wire k' page' to same is (size ∙ ap length (sym lies)) (subst (λ x. KeepsPage x to.wire.buffer.now to) (sym w.state-is) w.of.ensures)))
        | else-is_ok w ↦
            let is : page' ≡ to.wire.buffer.now = search (rules, same, w.page-is) in
            declined r old new (LeavesPage page k' page' to) (u ≡ v) (sym ok ∙ w.if-is_ok.false) (λ e err.
            let still : u ≡ v = unchanged v u _ _ _ _ (subst (λ x. Steps v (call_of (length before) call) (counted x) (moved_by call x after) u) err m.steps) in
            (both_stay k k' page page' w.state-is (is ∙ page_back wire to.wire same (ap (λ x. x.waiting) still) ∙ lies), still))
      ];
    })
