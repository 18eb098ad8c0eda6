-- The number of a character key's sequence.
use Rattle.std.proofs.Common.{◌≡◌, ℕ, true, cond, eqb, sym, refl, subst}
use Rattle.std.proofs.lemmas.Bool.{eqb-true, cond_both}
use Rattle.report.specs.declared.ending.Last.TheVariants.{Tilde}
use Rattle.report.specs.Meanings.{Meaning, text, old}
use Rattle.input_types.specs.Bits.{holds}
use Rattle.texts.specs.Texts.{allowed as is_key}
use Rattle.events.specs.Kinds.{PlainKind, character}
use Rattle.events.specs.Events.{PlainEvent, guess}
use Rattle.events.proofs.Fits.{allowed}
use Rattle.rules.specs.Strokes.{PlainStroke, bare}
use Rattle.rules.specs.Rules.{passes, silent, says, ◌▸◌, hushed, releases, erased, plainly, texts, pad_tells, keypad, entering, old_way, controlled, old_form, new_form, character_key, stroke, early, late, verdict}
use Rattle.rules.specs.Laws.{Lawful, OffKeypad, Own, OwnNumber}
use Rattle.rules.proofs.Verdicts.{Says, then, said}

module _ (P : Meaning → Type 0) (flags : ℕ) (e : PlainEvent) (k : PlainKind) (s : PlainStroke) where
  -- off the keypad the early rules say no more than a text
  pub early_says : Says P (texts flags e.down e.modifiers k) → OffKeypad e → Says P (early flags e k s)
  early_says t o =
      then P (releases flags e.down) (texts flags e.down e.modifiers k ▸ keypad (holds e.leds 4) (guess e) s)
      (cond_both (hushed flags e.down) silent passes (Says P) (λ _. tt) (λ _. tt))
      (then P (texts flags e.down e.modifiers k) (keypad (holds e.leds 4) (guess e) s) t (subst (λ x. Says P (pad_tells x s)) (sym o) tt))

module _ (base : ℕ → ℕ) (laws : Lawful base) where
  module _ (flags : ℕ) (e : PlainEvent) (c : ℕ) (s : PlainStroke) (ok : is_key c ≡ true) (not-delete : c ≡ 127 → ⊥) where
    erased_ok : is_key (erased c) ≡ true
    erased_ok = cond_both (eqb c 8) 127 c (λ x. is_key x ≡ true) (λ _. refl) (λ _. ok)

    old_own : Own base (old_form e.modifiers c)
    old_own = cond_both (holds e.modifiers 4) (old (cond (holds e.modifiers 8) (controlled c) c)) (text (cond (holds e.modifiers 8) (controlled c) c)) (Own base) (λ _. tt) (λ _. tt)

    key_own : Own base (character_key base flags e c s)
    key_own =
        cond_both (old_way flags e.down e.modifiers c) (old_form e.modifiers c) (new_form base flags e (erased c) s) (Own base) (λ _. old_own)
        (λ _. (laws.settled (erased c), laws.kept (erased c) erased_ok))

    late_own : Says (Own base) (late base flags e (character c) s)
    late_own =
        then (Own base) (cond (eqb c 127) (says (bare 3 Tilde s)) passes) (cond (entering flags e.down c) silent passes ▸ says (character_key base flags e c s))
        (cond_both (eqb c 127) (says (bare 3 Tilde s)) passes (Says (Own base)) (λ h. absurd (not-delete (eqb-true c 127 h))) (λ _. tt))
        (then (Own base) (cond (entering flags e.down c) silent passes) (says (character_key base flags e c s))
        (cond_both (entering flags e.down c) silent passes (Says (Own base)) (λ _. tt) (λ _. tt)) key_own)

    texts_own : Says (Own base) (texts flags e.down e.modifiers (character c))
    texts_own = cond_both (plainly flags e.down e.modifiers c) (says (text (erased c))) passes (Says (Own base)) (λ _. tt) (λ _. tt)

pub own_number : OwnNumber
own_number base flags e c laws good key =
    let s = stroke flags e in
    let ok = allowed e c good key.0 in
    let here = then (Own base) (early flags e (character c) s) (late base flags e (character c) s)
    (early_says (Own base) flags e (character c) s (texts_own base laws flags e c s ok key.1) key.2) (late_own base laws flags e c s ok key.1) in
    said (Own base) (verdict base flags e)
    (subst (λ (k : PlainKind). Says (Own base) (early flags e k s ▸ late base flags e k s)) (sym key.0) here)
