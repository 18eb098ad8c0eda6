-- What a call leaves, by whether it was accepted.
use Rattle.std.proofs.Common.{◌≡◌, ℕ, true, false, List, [], ◌∷◌, ◌++◌, length, take, drop, Ok, Err, Result, refl, sym, ap, subst, arith, take-append-drop}
use Rattle.std.proofs.lemmas.List.{length-take-le}
use Rattle.std.specs.Result.{is_ok}
use Rattle.wire.specs.declared.lent_ring.LentRing.{LentRing}
use Rattle.wire.specs.declared.page.Page.{Page}
use Rattle.wire.specs.declared.ring.Ring.{Ring}
use Rattle.wire.specs.Waiting.{page_waiting}
use Rattle.wire.specs.Pages.{SamePage}
use Rattle.seat.specs.declared.refusal.Refusal.{Refusal}
use Rattle.seat_state.specs.declared.kept.Kept.{Kept}
use Rattle.seat_state.specs.declared.kept.PageState.{PageState}
use Rattle.seat_state.specs.declared.kept.RingState.{RingState}
use Rattle.seat_state.specs.Keeping.{PageSeat, KeepsPage}
use Rattle.seat_state.specs.Calls.{Leaves, LeavesPage}

pub accepted : {S : Type 0} (r : Result ℕ Refusal) (k k' : S) (K V : Type 0) → is_ok r ≡ true → K → Leaves r k k' K V
accepted (Ok n) k k' K V is h = h
accepted (Err e) k k' K V is h = absurd (cc)

pub declined : {S : Type 0} (r : Result ℕ Refusal) (k k' : S) (K V : Type 0) → is_ok r ≡ false → ((e : Refusal) → r ≡ Err e → (k' ≡ k) × V) → Leaves r k k' K V
declined (Ok n) k k' K V is same = absurd (cc)
declined (Err e) k k' K V is same = same e refl

pub no_bytes : (xs : List ℕ) → length xs ≡ 0 → xs ≡ []
no_bytes [] e = refl
no_bytes (x ∷ xs) e = absurd (omega arith)

-- A page of which neither what waits nor what stands behind it changed is as it was.
pub page_back : (p q : Page) → SamePage p q → page_waiting q ≡ page_waiting p → q.buffer.now ≡ p.buffer.now
page_back p q same e =
    let m : length (page_waiting p) ≡ p.len = length-take-le p.len p.buffer.now p.held in
    let n : length (page_waiting q) ≡ q.len = length-take-le q.len q.buffer.now q.held in
    let len : q.len ≡ p.len = cc (m, n, ap length e) in
    let behind : drop q.len q.buffer.now ≡ drop q.len p.buffer.now = same.behind in
    let whole : take q.len q.buffer.now ++ drop q.len q.buffer.now ≡ q.buffer.now = take-append-drop q.len q.buffer.now in
    let before : take p.len p.buffer.now ++ drop p.len p.buffer.now ≡ p.buffer.now = take-append-drop p.len p.buffer.now in
    cc

pub leaves_page : (p : Page) (k : PageState) (page' : List ℕ) (s : PageSeat) → SamePage p s.wire → page' ≡ s.wire.buffer.now → length page' ≡ length p.buffer.now → KeepsPage k s.wire.buffer.now s → LeavesPage p.buffer.now k page' s
leaves_page p k page' s same is size kept =
    let count : k.count ≡ s.wire.len = kept.count in
    let behind : drop s.wire.len s.wire.buffer.now ≡ drop s.wire.len p.buffer.now = same.behind in
    record { kept = subst (λ x. KeepsPage k x s) (sym is) kept; size = size; behind = cc }

pub both_stay : (k k' : PageState) (p p' : List ℕ) → k' ≡ k → p' ≡ p → (let a : PageState × List ℕ = (k', p') in a) ≡ (k, p)
both_stay k k' p p' e f = cc

-- The ring that a lent one is, with the table as it stands.
abbrev pub owned : LentRing → Ring
owned r = record { table = r.table.now; head = r.head; len = r.len; begins = r.begins; held = r.held }

same_state : (a b : Kept) (h i c d : ℕ) (t u : List ℕ) → a ≡ b → h ≡ i → c ≡ d → t ≡ u → (let s : RingState = record { kept = a; head = h; count = c; table = t } in s) ≡ record { kept = b; head = i; count = d; table = u }
same_state a b h i c d t u e f g k = cc

pub ring_stays : (k k' : RingState) → k'.kept ≡ k.kept → k'.head ≡ k.head → k'.count ≡ k.count → k'.table ≡ k.table → k' ≡ k
ring_stays k k' e f g h = same_state _ _ _ _ _ _ _ _ e f g h
