-- What holds of the reports of one accepted key or question.
use Rattle.std.proofs.Common.{◌≡◌, ℕ, [], Some, None, Option, sym, ap, ◌∙◌, subst}
use Rattle.std.proofs.lemmas.List.{append-nil}
use Rattle.report.specs.Meanings.{Meaning, Valid, Clear}
use Rattle.events.specs.Events.{PlainEvent, sum, direction}
use Rattle.rules.specs.Rules.{tells}
use Rattle.rules.specs.Laws.{IfTold}
use Rattle.rules.proofs.Clearness.{told_clear}
use Rattle.rules.proofs.Numbers.{own_number}
use Rattle.rules.proofs.Inverse.{fixed_reads, fixed_tells}
use Rattle.rules.proofs.Verdicts.{of_told}
use Rattle.dialect.specs.Streams.{AllClear}
use Rattle.plain_seat.specs.Plain.{Terms, Entry, Keyed, Asked, reports_of, optional}
use Rattle.plain_seat.specs.Reading.{Sound, Marked, Numbered, TellsFixed, Apart, Laws}

clear_optional : (o : Option Meaning) → IfTold Valid o → IfTold Clear o → AllClear (optional o)
clear_optional None v c = tt
clear_optional (Some m) v c = (v, c, tt)

pub clear_of : (base : ℕ → ℕ) (x : Entry) → Sound base x × Marked x → AllClear (reports_of base x)
clear_of base (Keyed e flags) s = clear_optional (tells base flags e) s.0.1 (told_clear base flags e s.1)
clear_of base (Asked flags) s = (s.0, tt, tt)

module _ (t : Terms) (laws : Laws t) where
  pub numbered_of : (x : Entry) → Sound t.base x → Numbered t.base x
  numbered_of (Keyed e flags) s = λ c k. own_number t.base flags e c laws.lawful s.0 k
  numbered_of (Asked flags) s = tt

  -- the sequences of two such keys with the same bytes are one
  same_sequence : (f : ℕ) (e : PlainEvent) (m : Meaning) (g : ℕ) (d : PlainEvent) (n : Meaning) → IfTold Valid (tells t.base f e) → IfTold Valid (tells t.base g d) → TellsFixed t.base f e m → TellsFixed t.base g d n → t.bytes m ≡ t.bytes n → (e.key.kind ≡ d.key.kind) × (direction e ≡ direction d) × (sum e ≡ sum d)
  same_sequence f e m g d n v w p q same =
      let a = fixed_tells t.base f e p.key p.off m p.tells_it in
      let b = fixed_tells t.base g d q.key q.off n q.tells_it in
      let vm : Valid m = of_told Valid (tells t.base f e) m v p.tells_it in
      let vn : Valid n = of_told Valid (tells t.base g d) n w q.tells_it in
      let cm : Clear m = subst Clear (sym a.1) tt in
      let cn : Clear n = subst Clear (sym b.1) tt in
      let one : m ≡ n = laws.apart m n [] vm cm vn cn (append-nil (t.bytes m) ∙ same) in
      let here = fixed_reads t.base f e p.key p.off a.0 (p.tells_it ∙ ap Some a.1) in
      let there = fixed_reads t.base g d q.key q.off a.0 (q.tells_it ∙ ap Some (sym one ∙ a.1)) in
      (sym here.0 ∙ there.0, sym here.1 ∙ there.1, sym here.2 ∙ there.2)

  pub apart_of : (x y : Entry) → Sound t.base x → Sound t.base y → Apart t x y
  apart_of (Keyed e f) (Keyed d g) s u = λ m n p q same. same_sequence f e m g d n s.1 u.1 p q same
  apart_of (Keyed e f) (Asked g) s u = tt
  apart_of (Asked f) y s u = tt
