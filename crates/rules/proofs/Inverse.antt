-- The keys with a number or a final of their own can be read back from what they tell.
use Rattle.std.proofs.Common.{◌≡◌, ℕ, zero, suc, ◌+◌, ◌-◌, ◌<◌, ◌≤◌, Bool, true, false, cond, not, ◌&&◌, eqb, ltb, leb, ◌⊎◌, get_or, Some, sym, refl, ap, ◌∙◌, subst, ⊎_elim, arith}
use Rattle.std.proofs.lemmas.Bool.Decides.{nat_tests as tests, Decides-below_and, Decides-and, Decides-ltb, Decides-eqb}
use Rattle.std.proofs.lemmas.Bool.{and_parts, both_ways, cond_both, le-ltb, ne_eqb}
use Rattle.report.specs.declared.ending.Last.{Last}
use Rattle.report.specs.declared.ending.Last.TheVariants.{U, Tilde, Up, Down, Right, Left, Begin, End, Home}
use Rattle.report.specs.Meanings.{Meaning, Fields, text, old, answer, sequence}
use Rattle.input_types.specs.Bits.{holds}
use Rattle.events.specs.Kinds.{PlainKind, character, composed, numpad, function, numbered, lettered, other}
use Rattle.events.specs.Events.{PlainEvent, sum, direction}
use Rattle.rules.specs.Strokes.{PlainStroke, bare, wordless}
use Rattle.rules.specs.Rules.{passes, says, ◌▸◌, erased, plainly, texts, function_numbers, function_tells, functional, stroke, early, late, verdict, tells}
use Rattle.rules.specs.Laws.{IfTold, Fixed, Arrow, OffKeypad}
use Rattle.rules.proofs.Verdicts.{Says, then, said, of_told}
use Rattle.rules.proofs.Numbers.{early_says}

-- which of the first twelve function keys has a number
abbrev function_of : ℕ → ℕ
function_of n = cond (ltb n 16) (n - 10) (cond (ltb n 22) (n - 11) (n - 12))

-- which key a number and a final stand for
abbrev pub key_of : ℕ → Last → PlainKind
key_of n U = function (n - 57363)
key_of n Tilde = cond (eqb n 3) (character 127) (cond (ltb n 7) (numbered n) (function (function_of n)))
key_of n Up = lettered Up
key_of n Down = lettered Down
key_of n Right = lettered Right
key_of n Left = lettered Left
key_of n Begin = other
key_of n End = lettered End
key_of n Home = lettered Home

-- the report stands for the key k, and bears the sum and the direction
abbrev pub Reads : PlainKind → PlainStroke → Meaning → Type 0
Reads k s (text c) = ⊥
Reads k s (old c) = ⊥
Reads k s (answer n) = ⊥
Reads k s (sequence f) = (key_of f.number f.last ≡ k) × (f.direction ≡ s.direction) × (f.sum ≡ s.sum)

abbrev fine : ℕ → Bool
fine i = eqb (function_of (get_or function_numbers (suc i) 0)) (suc i) && ltb 6 (get_or function_numbers (suc i) 0)

abbrev fine_below : ℕ → Bool
fine_below zero = true
fine_below (suc n) = fine n && fine_below n

low : (i : ℕ) → i < 12 → (function_of (get_or function_numbers (suc i) 0) ≡ suc i) × (6 < get_or function_numbers (suc i) 0)
low =
    (Decides-below_and fine (λ i. (function_of (get_or function_numbers (suc i) 0) ≡ suc i) × (6 < get_or function_numbers (suc i) 0)) fine_below
    (λ i. Decides-and (eqb (function_of (get_or function_numbers (suc i) 0)) (suc i)) (ltb 6 (get_or function_numbers (suc i) 0)) (Decides-eqb (function_of (get_or function_numbers (suc i) 0)) (suc i)) (Decides-ltb 6 (get_or function_numbers (suc i) 0))) refl (λ n. refl) 12).0 refl

past_six : (n : ℕ) → 6 < n → key_of n Tilde ≡ function (function_of n)
past_six n h = rw (ne_eqb n 3 (λ z. omega arith), le-ltb n 7 (omega arith)) refl

first_twelve : (n : ℕ) → 1 ≤ n → n ≤ 12 → key_of (get_or function_numbers n 0) Tilde ≡ function n
first_twelve zero a b = absurd (omega arith)
first_twelve (suc i) a b = let l = low i (omega arith) in past_six (get_or function_numbers (suc i) 0) l.1 ∙ ap function l.0

few : (n : ℕ) → (n ≡ 2) ⊎ ((n ≡ 5) ⊎ (n ≡ 6)) → key_of n Tilde ≡ numbered n
few n h =
    ⊎_elim (λ e. subst (λ x. key_of x Tilde ≡ numbered x) (sym e) refl)
    (⊎_elim (λ e. subst (λ x. key_of x Tilde ≡ numbered x) (sym e) refl) (λ e. subst (λ x. key_of x Tilde ≡ numbered x) (sym e) refl)) h

arrow : (l : Last) → Arrow l → key_of 1 l ≡ lettered l
arrow U a = absurd a
arrow Tilde a = absurd a
arrow Up a = refl
arrow Down a = refl
arrow Right a = refl
arrow Left a = refl
arrow Begin a = absurd a
arrow End a = refl
arrow Home a = refl

module _ (base : ℕ → ℕ) (flags : ℕ) (e : PlainEvent) (s : PlainStroke) where
  -- a function key up to 24 never goes on to the number of its raw event
  function_reads : (n : ℕ) → 1 ≤ n → n ≤ 24 → Says (Reads (function n) s) (function_tells n s ▸ functional flags e.raw s)
  function_reads n a b =
      cond_both (leb 1 n && leb n 12) (says (bare (get_or function_numbers n 0) Tilde s)) (cond (leb 13 n && leb n 24) (says (wordless (57363 + n) s)) passes) (λ v. Says (Reads (function n) s) (v ▸ functional flags e.raw s))
      (λ h. let p : n ≤ 12 = grind (arith, tests) in (first_twelve n a p, refl, refl))
      (λ h. cond_both (leb 13 n && leb n 24) (says (wordless (57363 + n) s)) passes (λ v. Says (Reads (function n) s) (v ▸ functional flags e.raw s))
      (λ _. let p : 57363 + n - 57363 ≡ n = omega arith in (ap function p, refl, refl))
      (λ k. absurd (grind (arith, tests))))

  late_reads : (k : PlainKind) → Fixed k → Says (Reads k s) (late base flags e k s)
  late_reads (character c) h = subst (λ x. Says (Reads (character x) s) (late base flags e (character x) s)) (sym h) (refl, refl, refl)
  late_reads (composed bs) h = absurd h
  late_reads (numpad n) h = absurd h
  late_reads (function n) h = function_reads n h.0 h.1
  late_reads (numbered n) h = (few n h, refl, refl)
  late_reads (lettered l) h = (arrow l h, refl, refl)
  late_reads other h = absurd h

  delete_passes : Says (Reads (character 127) s) (texts flags e.down e.modifiers (character 127))
  delete_passes =
      cond_both (plainly flags e.down e.modifiers 127) (says (text (erased 127))) passes (Says (Reads (character 127) s))
      (λ h. let p = and_parts (e.down && eqb e.modifiers 0 && not (holds flags 8) && not (eqb 127 27 && holds flags 1)) (not (eqb 127 127)) h in both_ways false refl p.1) (λ _. tt)

  texts_reads : (k : PlainKind) → Fixed k → Says (Reads k s) (texts flags e.down e.modifiers k)
  texts_reads (character c) h = subst (λ x. Says (Reads (character x) s) (texts flags e.down e.modifiers (character x))) (sym h) delete_passes
  texts_reads (composed bs) h = absurd h
  texts_reads (numpad n) h = absurd h
  texts_reads (function n) h = tt
  texts_reads (numbered n) h = tt
  texts_reads (lettered l) h = tt
  texts_reads other h = absurd h

reads : (base : ℕ → ℕ) (flags : ℕ) (e : PlainEvent) → Fixed e.key.kind → OffKeypad e → IfTold (Reads e.key.kind (stroke flags e)) (tells base flags e)
reads base flags e h off =
    let k = e.key.kind in
    let s = stroke flags e in
    said (Reads k s) (verdict base flags e)
    (then (Reads k s) (early flags e k s) (late base flags e k s) (early_says (Reads k s) flags e k s (texts_reads base flags e s k h) off) (late_reads base flags e s k h))

module _ (base : ℕ → ℕ) (flags : ℕ) (e : PlainEvent) (h : Fixed e.key.kind) (off : OffKeypad e) where
  -- the sequence that such a key tells stands for it
  pub fixed_reads : (f : Fields) → tells base flags e ≡ Some (sequence f) → Reads e.key.kind (stroke flags e) (sequence f)
  fixed_reads f t = of_told (Reads e.key.kind (stroke flags e)) (tells base flags e) (sequence f) (reads base flags e h off) t

  pub fixed_tells : (m : Meaning) → tells base flags e ≡ Some m → (f : Fields) × (m ≡ sequence f) × (f.direction ≡ direction e) × (f.sum ≡ sum e)
  fixed_tells m t = sequence_of m (of_told (Reads e.key.kind (stroke flags e)) (tells base flags e) m (reads base flags e h off) t)
    where
      sequence_of : (m : Meaning) → Reads e.key.kind (stroke flags e) m → (f : Fields) × (m ≡ sequence f) × (f.direction ≡ direction e) × (f.sum ≡ sum e)
      sequence_of (text c) p = absurd p
      sequence_of (old c) p = absurd p
      sequence_of (answer n) p = absurd p
      sequence_of (sequence f) p = (f, refl, p.1, p.2)
