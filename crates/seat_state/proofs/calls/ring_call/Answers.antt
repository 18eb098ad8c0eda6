use Rattle.std.proofs.Common.{◌≡◌, List, ℕ, length, inr, sym, ap, subst, ◌∙◌, arith, rules}
use Rattle.plain_seat.specs.Reading.{Steps}
use Rattle.seat.specs.Seats.{counted}
use Rattle.script.specs.Scripts.{call_of, moved_by}
use Rattle.wire.specs.Tables.{SameTable}
use Rattle.seat_state.specs.Keeping.{RingSeat, KeepsRing, ring_view}
use Rattle.seat_state.specs.Over.{over}
use Rattle.seat_state.proofs.Declining.{unchanged}
use Rattle.seat_state.proofs.Leaving.{accepted, declined, owned, ring_stays}
use Rattle.seat_state.proofs.calls.ring_call.Goals as goal
use Rattle.seat_state.proofs.calls.ring_call.Goals.{then-is_ok, else-is_ok}

pub returns : goal.returns
returns c =
    let m = c.call_over-made.ensures.made in
    let r = c.call_over-made.result in
    let ok = c.is_ok.ensures.value in
    let k = c.args.state.now in
    let k' = c.if-is_ok.state in
    let wire = c.resume-wire.result in
    let last = c.call_over-made.new.wire in
    let lies : wire.table.now ≡ k.table = ap (λ b. b.now) c.resume-wire.ensures.same in
    let head : wire.head ≡ k.head = (let h = c.resume-wire.ensures.head in let low = c.if-state-ge4096.false in omega (arith, h, low)) in
    let count : wire.len ≡ k.count = (let n = c.resume-wire.ensures.len in let few = c.if-state-gt4096.false in omega (arith, n, few)) in
    let same : SameTable wire last = c.call_over-made.ensures.keeps in
    let from : RingSeat = over (owned wire) c.in-Some.upper in
    let to : RingSeat = over (owned last) c.call_over-made.new.upper in
    let v = ring_view from in
    let u = ring_view to in
    let call = c.args.call.now in
    let before = c.args.buffer.now in
    let after = c.call_over-made.new.buffer in
    inr (record {
      from = from;
      to = to;
      outcome = r;
      read = record { kept = c.in-Some.ensures; head = sym head; count = sym count; table = sym lies };
      answer = c.into.ensures;
      made = m;
      left = elim c.if-is_ok.branch [
        | then-is_ok w ↦
            let is : k'.table ≡ last.table.now = search (rules, same, w.state-is) in
            accepted r k k' (KeepsRing k' to) (u ≡ v) (sym ok ∙ w.if-is_ok.true) (search (rules, w.state-is))
        | else-is_ok w ↦
            let is : k'.table ≡ last.table.now = search (rules, same, w.state-is) in
            declined r k k' (KeepsRing k' to) (u ≡ v) (sym ok ∙ w.if-is_ok.false) (λ e err.
            let still : u ≡ v = unchanged v u _ _ _ _ (subst (λ x. Steps v (call_of (length before) call) (counted x) (moved_by call x after) u) err m.steps) in
            let all = same.unchanged (ap (λ x. x.waiting) still) in
            (ring_stays k k' (search (rules, w.state-is)) (search (rules, w.state-is)) (search (rules, w.state-is)) (is ∙ all.0 ∙ lies), still))
      ];
    })
