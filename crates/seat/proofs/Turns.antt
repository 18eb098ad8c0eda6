-- What a key does, as the plain seat's step, and how a step goes on from every history.
use Rattle.std.proofs.Common.{◌≡◌, ℕ, ◌≤◌, true, [], List, inl, inr, ◌++◌, length, Some, None, Option, Result, ap, ◌∙◌, sym, subst, arith}
use Rattle.std.specs.Option.{option_map}
use Rattle.std.proofs.lemmas.Grind.{common_steps}
use Rattle.std.proofs.lemmas.List.{append-nil}
use Rattle.std.proofs.lemmas.Bool.{cases_Bool}
use Rattle.report.specs.Meanings.{Meaning, Valid, Clear}
use Rattle.report.specs.Telling.{told_means}
use Rattle.report.specs.declared.told.Told.{Told}
use Rattle.report.proofs.Validity.{told_valid as valid}
use Rattle.texts.specs.Texts.{allowed}
use Rattle.events.specs.Events.{PlainEvent}
use Rattle.events.specs.Faults.{event_fault, faultless}
use Rattle.events.proofs.Fits.{none_from}
use Rattle.rules.specs.Rules.{tells}
use Rattle.rules.specs.Laws.{IfTold}
use Rattle.settings.specs.Stack.{in_force}
use Rattle.plain_seat.specs.Plain.{Call, Key, Reply, Done}
use Rattle.plain_seat.specs.Reading.{View, Steps, GoesOn}
use Rattle.plain_seat.proofs.Onward.{goes_on}
use Rattle.seat.specs.declared.refusal.Refusal.{Refusal}
use Rattle.seat.specs.Seats.{Sent, fitting, counted}

-- what a checked event tells is a report
told_valid : (o : Option Told) → IfTold Valid (option_map told_means o)
told_valid None = tt
told_valid (Some r) = valid r

module _ (v : View) (e : PlainEvent) (ok : faultless e ≡ true) (flags : ℕ) (force : flags ≡ in_force v.stacks) (o : Option Told) (tell : option_map told_means o ≡ tells v.terms.base flags e) where
  tells_it : tells v.terms.base (in_force v.stacks) e ≡ option_map told_means o
  tells_it = sym (tell ∙ ap (λ f. tells v.terms.base f e) force)

  none : event_fault e ≡ None
  none = none_from (event_fault e) ok

  told : IfTold Valid (tells v.terms.base (in_force v.stacks) e)
  told = subst (IfTold Valid) (sym tells_it) (told_valid o)

  -- A key that tells nothing.
  pub silent : o ≡ None → Steps v (Key e) (Done 0) [] v
  silent is = let t = tells_it in let n = none in let s = told in grind (arith, common_steps)

  pub tells_report : (r : Told) → o ≡ Some r → (w : View) (a : Result ℕ Refusal) → Sent v (told_means r) a w → Steps v (Key e) (counted a) [] w
  tells_report r is w a s =
      let t : tells v.terms.base (in_force v.stacks) e ≡ Some (told_means r) = tells_it ∙ ap (option_map told_means) is in
      let n = none in
      let k = told in
      let b = append-nil (v.terms.bytes (told_means r)) in
      elim (cases_Bool (fitting v (told_means r))) [ inl y ↦ grind (arith, common_steps) | inr y ↦ grind (arith, common_steps) ]

-- What a call does as the plain seat's step goes on from every history, by the laws of the layout and the dialect.
pub goes : {v w : View} {c : Call} {r : Reply} {bs : List ℕ} → ((k : ℕ) → v.terms.base (v.terms.base k) ≡ v.terms.base k) → ((k : ℕ) → allowed k ≡ true → allowed (v.terms.base k) ≡ true) → ((m : Meaning) → Valid m → (1 ≤ length (v.terms.bytes m)) × (length (v.terms.bytes m) ≤ 512)) → ((m n : Meaning) (rest : List ℕ) → Valid m → Clear m → Valid n → Clear n → v.terms.bytes m ++ rest ≡ v.terms.bytes n → m ≡ n) → Steps v c r bs w → GoesOn v c r bs w
goes {v} {w} {c} {r} {bs} settled kept sized apart s =
    goes_on v w (record { lawful = record { settled = settled; kept = kept }; sized = sized; apart = apart }) c r bs s
