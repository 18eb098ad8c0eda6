-- Where escape codes are disambiguated, each rule says only what is clear.
use Rattle.std.proofs.Common.{◌≡◌, ℕ, ◌+◌, ◌≤◌, Bool, true, false, cond, not, ◌&&◌, ◌||◌, eqb, leb, get_or, Some, None, Option, ⊎_elim, arith}
use Rattle.std.proofs.lemmas.Bool.{and_parts, and_cases, or_parts, not-true, both_ways, eqb-false, leb-true, cond_both}
use Rattle.report.specs.declared.ending.Last.TheVariants.{Tilde, Begin}
use Rattle.report.specs.Meanings.{text, old, Clear}
use Rattle.input_types.specs.Bits.{holds}
use Rattle.events.specs.Kinds.{PlainKind}
use Rattle.events.specs.Events.{PlainEvent, guess, code_raw}
use Rattle.rules.specs.Strokes.{PlainStroke, bare, full, wordless}
use Rattle.rules.specs.Rules.{passes, silent, says, ◌▸◌, on_character, on_numbered, hushed, releases, erased, plainly, texts, pad_tells, pad_guess, keypad, editing, entering, enters, old_way, controlled, old_form, new_form, character_key, characters, arrows, function_numbers, function_tells, functions, code_tells, functional, stroke, early, late, verdict}
use Rattle.rules.specs.Laws.{ToldClear}
use Rattle.rules.proofs.Verdicts.{Says, then, said, at_character, at_function, at_numbered, at_lettered}

-- of two facts that do not both hold, one holding rules out the other
left_out : (x y : Bool) → not (x && y) ≡ true → y ≡ true → x ≡ false
left_out x y h k = ⊎_elim (λ e. e) (λ e. absurd (both_ways y e k)) (and_cases x y (not-true (x && y) h))

right_out : (x y : Bool) → not (x && y) ≡ true → x ≡ true → y ≡ false
right_out x y h k = ⊎_elim (λ e. absurd (both_ways x e k)) (λ e. e) (and_cases x y (not-true (x && y) h))

erased_not : (c : ℕ) → eqb c 27 ≡ false → erased c ≡ 27 → ⊥
erased_not c e = cond_both (eqb c 8) 127 c (λ x. x ≡ 27 → ⊥) (λ _ z. omega arith) (λ _ z. eqb-false c 27 e z)

module _ (flags : ℕ) (d : holds flags 1 ≡ true) where
  plain_not : (down : Bool) (own c : ℕ) → plainly flags down own c ≡ true → eqb c 27 ≡ false
  plain_not down own c h =
      let p = and_parts (down && eqb own 0 && not (holds flags 8) && not (eqb c 27 && holds flags 1)) (not (eqb c 127)) h in
      let q = and_parts (down && eqb own 0 && not (holds flags 8)) (not (eqb c 27 && holds flags 1)) p.0 in
      left_out (eqb c 27) (holds flags 1) q.1 d

  texts_clear : (down : Bool) (own : ℕ) (k : PlainKind) → Says Clear (texts flags down own k)
  texts_clear down own k =
      at_character Clear k (λ c. cond (plainly flags down own c) (says (text (erased c))) passes)
      (λ c. cond_both (plainly flags down own c) (says (text (erased c))) passes (Says Clear) (λ h. erased_not c (plain_not down own c h)) (λ _. tt))

  old_clear : (down : Bool) (own c : ℕ) → old_way flags down own c ≡ true → Clear (old_form own c)
  old_clear down own c h =
      let p = and_parts (down && leb 33 c && leb c 126 && not (holds flags 4) && not (holds flags 8) && not (holds own 16)) (not (holds flags 1 && (holds own 8 || holds own 4))) h in
      let q = and_parts (down && leb 33 c && leb c 126 && not (holds flags 4) && not (holds flags 8)) (not (holds own 16)) p.0 in
      let r = and_parts (down && leb 33 c && leb c 126 && not (holds flags 4)) (not (holds flags 8)) q.0 in
      let t = and_parts (down && leb 33 c && leb c 126) (not (holds flags 4)) r.0 in
      let u = and_parts (down && leb 33 c) (leb c 126) t.0 in
      let v = and_parts down (leb 33 c) u.0 in
      let w = or_parts (holds own 8) (holds own 4) (right_out (holds flags 1) (holds own 8 || holds own 4) p.1 d) in
      let l : 33 ≤ c = leb-true 33 c v.1 in
      cond_both (holds own 4) (old (cond (holds own 8) (controlled c) c)) (text (cond (holds own 8) (controlled c) c)) Clear
      (λ e. absurd (both_ways (holds own 4) w.1 e))
      (λ _. cond_both (holds own 8) (controlled c) c (λ x. Clear (text x)) (λ e. absurd (both_ways (holds own 8) w.0 e)) (λ _ z. omega arith))

  character_clear : (base : ℕ → ℕ) (e : PlainEvent) (c : ℕ) (s : PlainStroke) → Clear (character_key base flags e c s)
  character_clear base e c s =
      cond_both (old_way flags e.down e.modifiers c) (old_form e.modifiers c) (new_form base flags e (erased c) s) Clear
      (old_clear e.down e.modifiers c) (λ _. tt)

  pad_clear : (o : Option ℕ) (s : PlainStroke) → Says Clear (pad_tells o s)
  pad_clear None s = tt
  pad_clear (Some n) s = cond_both (eqb n 1) (bare 1 Begin s) (full n None None s) Clear (λ _. tt) (λ _. tt)

  code_clear : (o : Option ℕ) (s : PlainStroke) → Says Clear (code_tells o s)
  code_clear None s = tt
  code_clear (Some n) s = cond_both (eqb n 2 || eqb n 57427) (bare n Tilde s) (full n None None s) Clear (λ _. tt) (λ _. tt)

  function_clear : (n : ℕ) (s : PlainStroke) → Says Clear (function_tells n s)
  function_clear n s =
      cond_both (leb 1 n && leb n 12) (says (bare (get_or function_numbers n 0) Tilde s)) (cond (leb 13 n && leb n 24) (says (wordless (57363 + n) s)) passes) (Says Clear) (λ _. tt)
      (λ _. cond_both (leb 13 n && leb n 24) (says (wordless (57363 + n) s)) passes (Says Clear) (λ _. tt) (λ _. tt))

  early_clear : (e : PlainEvent) (k : PlainKind) (s : PlainStroke) → Says Clear (early flags e k s)
  early_clear e k s =
      then Clear (releases flags e.down) (texts flags e.down e.modifiers k ▸ keypad (holds e.leds 4) (guess e) s)
      (cond_both (hushed flags e.down) silent passes (Says Clear) (λ _. tt) (λ _. tt))
      (then Clear (texts flags e.down e.modifiers k) (keypad (holds e.leds 4) (guess e) s) (texts_clear e.down e.modifiers k) (pad_clear (pad_guess (holds e.leds 4) (guess e)) s))

  late_clear : (base : ℕ → ℕ) (e : PlainEvent) (k : PlainKind) (s : PlainStroke) → Says Clear (late base flags e k s)
  late_clear base e k s =
      then Clear (editing k s) (enters flags e.down k ▸ characters base flags e k s ▸ arrows k s ▸ functions k s ▸ functional flags e.raw s)
      (then Clear (on_numbered k (λ n. says (bare n Tilde s))) (on_character k (λ c. cond (eqb c 127) (says (bare 3 Tilde s)) passes))
      (at_numbered Clear k (λ n. says (bare n Tilde s)) (λ _. tt))
      (at_character Clear k (λ c. cond (eqb c 127) (says (bare 3 Tilde s)) passes) (λ c. cond_both (eqb c 127) (says (bare 3 Tilde s)) passes (Says Clear) (λ _. tt) (λ _. tt))))
      (then Clear (enters flags e.down k) (characters base flags e k s ▸ arrows k s ▸ functions k s ▸ functional flags e.raw s)
      (at_character Clear k (λ c. cond (entering flags e.down c) silent passes) (λ c. cond_both (entering flags e.down c) silent passes (Says Clear) (λ _. tt) (λ _. tt)))
      (then Clear (characters base flags e k s) (arrows k s ▸ functions k s ▸ functional flags e.raw s)
      (at_character Clear k (λ c. says (character_key base flags e c s)) (λ c. character_clear base e c s))
      (then Clear (arrows k s) (functions k s ▸ functional flags e.raw s)
      (at_lettered Clear k (λ l. says (bare 1 l s)) (λ _. tt))
      (then Clear (functions k s) (functional flags e.raw s)
      (at_function Clear k (λ n. function_tells n s) (λ n. function_clear n s))
      (cond_both (holds flags 8) (code_tells (code_raw e.raw) s) passes (Says Clear) (λ _. code_clear (code_raw e.raw) s) (λ _. tt))))))

pub told_clear : ToldClear
told_clear base flags e d =
    let k = e.key.kind in
    let s = stroke flags e in
    said Clear (verdict base flags e) (then Clear (early flags e k s) (late base flags e k s) (early_clear flags d e k s) (late_clear flags d base e k s))
