-- Each part of a sequence, and how it goes on.
use Rattle.std.proofs.Common.{◌≡◌, ℕ, ◌+◌, ◌-◌, ◌≤◌, Bool, true, false, eqb, ◌⊎◌, List, [], ◌∷◌, ◌++◌, length, Some, None, decimal, Option, Result, sym, refl, ap, ◌∙◌, subst, inl, inr, arith}
use lib.Utf8.{scalars}
use Rattle.std.specs.Char.{is_ascii_digit}
use Rattle.std.proofs.lemmas.Fmt.{decimal_digit}
use Rattle.std.proofs.lemmas.List.{append_assoc}
use Rattle.std.proofs.lemmas.Bool.{eqb-true, eqb-false, ne_eqb, cases_Bool, cond-true, cond-false, and_right}
use Rattle.report.specs.declared.ending.Direction.{Direction}
use Rattle.report.specs.declared.ending.Direction.TheVariants.{Press, Release}
use Rattle.report.specs.declared.ending.Last.{Last}
use Rattle.report.specs.declared.ending.Last.TheVariants.{U}
use Rattle.report.specs.Meanings.{Fields, Coded}
use Rattle.report.specs.Endings.{direction_number, is_press, last_byte}
use Rattle.dialect.specs.KittyBytes.{optional, alternates, event, further, typed}
use Rattle.report.specs.EndingLaws.{direction_same, direction_digit, last_high, last_byte_lem, last_stops}
use Rattle.dialect.specs.KittyLaws.{unlike}
use Rattle.pieces.specs.declared.found.Fault.{Fault}
use Rattle.pieces.specs.declared.found.Range.TheVariants.{Code, Sum}
use Rattle.pieces.specs.Octets.{Octets}
use Rattle.pieces.specs.Runs.{Within}
use Rattle.pieces.proofs.Chains.{Chain}
use Rattle.pieces.proofs.OctetLaws.{octet_same, octet_starts}
use Rattle.pieces.proofs.Stages.{Stage}
use Rattle.sequences.specs.Leads.{Lead}
use Rattle.sequences.specs.declared.told.Told.{Told}
use Rattle.sequences.specs.Parts.{Long, closing, held, AtNumber, AtShifted, AtBase, AtSum, headed, redirected, AtEvent, AtMark, AtClosing, choose, after_number, after_shifted, after_base, after_sum, after_event, Started, filled, Tells}

-- the way that a test of the mark led
pub chosen : (b k : ℕ) {x y : Type 0} → choose (eqb b k) x y → ((b ≡ k) × x) ⊎ ((b ≡ k → ⊥) × y)
chosen b k {x} {y} p = go (eqb b k) refl p
  where
    go : (t : Bool) → eqb b k ≡ t → choose t x y → ((b ≡ k) × x) ⊎ ((b ≡ k → ⊥) × y)
    go true e p = inl (eqb-true b k e, p)
    go false e p = inr (eqb-false b k e, p)

choose_other : (b k : ℕ) (x y : Type 0) → (b ≡ k → ⊥) → y → choose (eqb b k) x y
choose_other b k x y h p = subst (λ t. choose t x y) (sym (ne_eqb b k h)) p

within_coded : (o : Option ℕ) → Coded o → Within Code o
within_coded None c = tt
within_coded (Some n) c = (omega arith, c)

-- with the final u, any parts in range make a sequence
pub long_u : (h : Lead) (cs : List ℕ) → Started h → scalars cs ≡ true → length cs ≤ 32 → Long (filled h U cs)
long_u h cs a c l = (record { number_fits = a.0; shifted_fits = a.1; base_fits = a.2; sum_fits = a.3; characters_are = c; few = l; suits = tt }, and_right (eqb h.number 1) false refl)

one_up : (n : ℕ) → n + 1 - 1 ≡ n
one_up n = omega arith

-- the number
number_alternates : (o p : Option ℕ) (t : List ℕ) → ((r : List ℕ) × (alternates o p ++ (59 ∷ t) ≡ 58 ∷ r)) ⊎ ((o ≡ None) × (p ≡ None))
number_alternates None None t = inr (refl, refl)
number_alternates (Some s) None t = inl (decimal s ++ (59 ∷ t), refl)
number_alternates s (Some b) t = inl ((optional s ++ (58 ∷ decimal b)) ++ (59 ∷ t), refl)

number_form : (f : Fields) (s : List ℕ) → AtNumber s f → (o : Option ℕ) × (b : ℕ) × (r : List ℕ) × Within Code o × (is_ascii_digit b ≡ false) × (s ≡ optional o ++ (b ∷ r)) × after_number o b r f
number_form f s p = elim (number_alternates f.shifted f.base (held f)) [
  | inl q ↦ (Some f.number, 58, q.0, (omega arith, p.0.0.number_fits), refl, p.1 ∙ ap (λ x. decimal f.number ++ x) q.1, (p.0, refl, sym q.1))
  | inr q ↦ (Some f.number, 59, held f, (omega arith, p.0.0.number_fits), refl, p.1 ∙ cc (q.0, q.1), (p.0, refl, q.0, q.1, refl))
]

number_join : (f : Fields) (o : Option ℕ) (b : ℕ) (r : List ℕ) → Within Code o → after_number o b r f → AtNumber (optional o ++ (b ∷ r)) f
number_join f None b r w p = absurd p
number_join f (Some n) b r w p = elim (chosen b 58 p) [ inl q ↦ (q.1.0, cc (q.0, q.1.1, q.1.2)) | inr q ↦ later (chosen b 59 q.1) ]
  where
    later : ((b ≡ 59) × AtSum n None None r f) ⊎ ((b ≡ 59 → ⊥) × ⊥) → AtNumber (decimal n ++ (b ∷ r)) f
    later (inl q) = (q.1.0, cc (q.0, q.1.1, q.1.2, q.1.3, q.1.4))
    later (inr q) = absurd q.1

number_opens : (o : Option ℕ) → Within Code o → (f : Fields) × (b : ℕ) × (r : List ℕ) × AtNumber (optional o ++ (b ∷ r)) f
number_opens None w =
    let h = headed 0 None None 0 Press in
    (filled h U [], 48, 59 ∷ held (filled h U []), (long_u h [] (omega arith, tt, tt, omega arith) refl (omega arith), ap (λ x. x ++ (59 ∷ held (filled h U []))) (sym (decimal_digit 0 (omega arith)))))
number_opens (Some n) w =
    let h = headed n None None 0 Press in
    (filled h U [], 59, held (filled h U []), (long_u h [] (w.1, tt, tt, omega arith) refl (omega arith), refl))

pub number_stage : Stage Code AtNumber after_number
number_stage = record { form = number_form; join = number_join; opens = number_opens }

-- the shifted code
module _ (n : ℕ) where
  shifted_form : (f : Fields) (s : List ℕ) → AtShifted n s f → (o : Option ℕ) × (b : ℕ) × (r : List ℕ) × Within Code o × (is_ascii_digit b ≡ false) × (s ≡ optional o ++ (b ∷ r)) × after_shifted n o b r f
  shifted_form f s p = go f.shifted f.base refl refl
    where
      go : (o q : Option ℕ) → f.shifted ≡ o → f.base ≡ q → (o : Option ℕ) × (b : ℕ) × (r : List ℕ) × Within Code o × (is_ascii_digit b ≡ false) × (s ≡ optional o ++ (b ∷ r)) × after_shifted n o b r f
      go None None i j =
          let e : 58 ∷ s ≡ 59 ∷ held f = p.2 ∙ ap (λ x. alternates x f.base ++ (59 ∷ held f)) i ∙ ap (λ x. alternates None x ++ (59 ∷ held f)) j in
          absurd (unlike 58 59 s (held f) e refl)
      go (Some c) None i j =
          let e : 58 ∷ s ≡ 58 ∷ (decimal c ++ (59 ∷ held f)) = p.2 ∙ ap (λ x. alternates x f.base ++ (59 ∷ held f)) i ∙ ap (λ x. alternates (Some c) x ++ (59 ∷ held f)) j in
          (Some c, 59, held f, within_coded (Some c) (subst Coded i p.0.0.shifted_fits), refl, (cc (e)), (p.0, p.1, i, j, refl))
      go None (Some d) i j =
          let e : 58 ∷ s ≡ 58 ∷ 58 ∷ (decimal d ++ (59 ∷ held f)) = p.2 ∙ ap (λ x. alternates x f.base ++ (59 ∷ held f)) i ∙ ap (λ x. alternates None x ++ (59 ∷ held f)) j in
          (None, 58, decimal d ++ (59 ∷ held f), tt, refl, (cc (e)), (p.0, p.1, i, (d, j, refl)))
      go (Some c) (Some d) i j =
          let e : 58 ∷ s ≡ 58 ∷ ((decimal c ++ (58 ∷ decimal d)) ++ (59 ∷ held f)) = p.2 ∙ ap (λ x. alternates x f.base ++ (59 ∷ held f)) i ∙ ap (λ x. alternates (Some c) x ++ (59 ∷ held f)) j in
          let r : s ≡ (decimal c ++ (58 ∷ decimal d)) ++ (59 ∷ held f) = cc (e) in
          (Some c, 58, decimal d ++ (59 ∷ held f), within_coded (Some c) (subst Coded i p.0.0.shifted_fits), refl, r ∙ append_assoc (decimal c) (58 ∷ decimal d) (59 ∷ held f), (p.0, p.1, i, (d, j, refl)))

  base_join : (f : Fields) (o : Option ℕ) (r : List ℕ) → AtBase n o r f → AtShifted n (optional o ++ (58 ∷ r)) f
  base_join f o r p =
      let d = p.3.0 in
      let e : 58 ∷ (optional o ++ (58 ∷ r)) ≡ alternates o (Some d) ++ (59 ∷ held f) = ap (λ x. 58 ∷ (optional o ++ (58 ∷ x))) p.3.2 ∙ ap (λ x. 58 ∷ x) (sym (append_assoc (optional o) (58 ∷ decimal d) (59 ∷ held f))) ∙ both o in
      (p.0, p.1, e ∙ ap (λ x. alternates o x ++ (59 ∷ held f)) (sym p.3.1) ∙ ap (λ x. alternates x f.base ++ (59 ∷ held f)) (sym p.2))
    where
      both : (o : Option ℕ) → 58 ∷ ((optional o ++ (58 ∷ decimal p.3.0)) ++ (59 ∷ held f)) ≡ alternates o (Some p.3.0) ++ (59 ∷ held f)
      both None = refl
      both (Some c) = refl

  shifted_join : (f : Fields) (o : Option ℕ) (b : ℕ) (r : List ℕ) → Within Code o → after_shifted n o b r f → AtShifted n (optional o ++ (b ∷ r)) f
  shifted_join f None b r w p = elim (chosen b 58 p) [ inl q ↦ subst (λ x. AtShifted n (x ∷ r) f) (sym q.0) (base_join f None r q.1) | inr q ↦ absurd q.1 ]
  shifted_join f (Some c) b r w p = elim (chosen b 58 p) [ inl q ↦ subst (λ x. AtShifted n (decimal c ++ (x ∷ r)) f) (sym q.0) (base_join f (Some c) r q.1) | inr q ↦ later (chosen b 59 q.1) ]
    where
      later : ((b ≡ 59) × AtSum n (Some c) None r f) ⊎ ((b ≡ 59 → ⊥) × ⊥) → AtShifted n (decimal c ++ (b ∷ r)) f
      later (inl q) =
          let e : 58 ∷ (decimal c ++ (b ∷ r)) ≡ alternates (Some c) None ++ (59 ∷ held f) = cc (q.0, q.1.4) in
          (q.1.0, q.1.1, e ∙ ap (λ x. alternates (Some c) x ++ (59 ∷ held f)) (sym q.1.3) ∙ ap (λ x. alternates x f.base ++ (59 ∷ held f)) (sym q.1.2))
      later (inr q) = absurd q.1

  shifted_opens : n ≤ 1114111 → (o : Option ℕ) → Within Code o → (f : Fields) × (b : ℕ) × (r : List ℕ) × AtShifted n (optional o ++ (b ∷ r)) f
  shifted_opens k None w =
      let h = headed n None (Some 0) 0 Press in
      (filled h U [], 58, decimal 0 ++ (59 ∷ held (filled h U [])), (long_u h [] (k, tt, omega arith, omega arith) refl (omega arith), refl, refl))
  shifted_opens k (Some c) w =
      let h = headed n (Some c) None 0 Press in
      (filled h U [], 59, held (filled h U []), (long_u h [] (k, w.1, tt, omega arith) refl (omega arith), refl, refl))

  pub shifted_stage : n ≤ 1114111 → Stage Code (AtShifted n) (after_shifted n)
  shifted_stage k = record { form = shifted_form; join = shifted_join; opens = shifted_opens k }

-- the base code
module _ (n : ℕ) (o : Option ℕ) where
  base_form : (f : Fields) (s : List ℕ) → AtBase n o s f → (v : Option ℕ) × (b : ℕ) × (r : List ℕ) × Within Code v × (is_ascii_digit b ≡ false) × (s ≡ optional v ++ (b ∷ r)) × after_base n o v b r f
  base_form f s p = (Some p.3.0, 59, held f, within_coded (Some p.3.0) (subst Coded p.3.1 p.0.0.base_fits), refl, p.3.2, (p.0, p.1, p.2, p.3.1, refl))

  base_joins : (f : Fields) (v : Option ℕ) (b : ℕ) (r : List ℕ) → Within Code v → after_base n o v b r f → AtBase n o (optional v ++ (b ∷ r)) f
  base_joins f None b r w p = absurd p
  base_joins f (Some d) b r w p = elim (chosen b 59 p) [ inl q ↦ (q.1.0, q.1.1, q.1.2, (d, q.1.3, cc (q.0, q.1.4))) | inr q ↦ absurd q.1 ]

  base_opens : n ≤ 1114111 → Coded o → (v : Option ℕ) → Within Code v → (f : Fields) × (b : ℕ) × (r : List ℕ) × AtBase n o (optional v ++ (b ∷ r)) f
  base_opens k c None w =
      let h = headed n o (Some 0) 0 Press in
      (filled h U [], 48, 59 ∷ held (filled h U []), (long_u h [] (k, c, omega arith, omega arith) refl (omega arith), refl, refl, (0, refl, ap (λ x. x ++ (59 ∷ held (filled h U []))) (sym (decimal_digit 0 (omega arith))))))
  base_opens k c (Some d) w =
      let h = headed n o (Some d) 0 Press in
      (filled h U [], 59, held (filled h U []), (long_u h [] (k, c, w.1, omega arith) refl (omega arith), refl, refl, (d, refl, refl)))

  pub base_stage : n ≤ 1114111 → Coded o → Stage Code (AtBase n o) (after_base n o)
  base_stage k c = record { form = base_form; join = base_joins; opens = base_opens k c }

-- the text and the final byte begin with no digit and no colon
closing_form : (cs : List ℕ) (l : Last) → (b : ℕ) × (r : List ℕ) × (is_ascii_digit b ≡ false) × (b ≡ 58 → ⊥) × (b ∷ r ≡ typed cs ++ (last_byte l ∷ [])) × (b ≤ 255)
closing_form [] l = (last_byte l, [], last_stops l, (λ e. omega (arith, last_high l)), refl, last_byte_lem l)
closing_form (c ∷ cs) l = (59, (decimal c ++ further cs) ++ (last_byte l ∷ []), refl, (λ e. omega arith), refl, omega arith)

-- the direction, as a test of it says
event_press : (d : Direction) → is_press d ≡ true → event d ≡ []
event_press d e = cond-true (is_press d) [] (58 ∷ (48 + direction_number d) ∷ []) e

event_other : (d : Direction) → is_press d ≡ false → event d ≡ 58 ∷ (48 + direction_number d) ∷ []
event_other d e = cond-false (is_press d) [] (58 ∷ (48 + direction_number d) ∷ []) e

press_is : (d : Direction) → is_press d ≡ true → d ≡ Press
press_is d e = direction_same d Press (eqb-true (direction_number d) 1 e)

-- the modifiers
module _ (n : ℕ) (o p : Option ℕ) where
  sum_form : (f : Fields) (s : List ℕ) → AtSum n o p s f → (v : Option ℕ) × (b : ℕ) × (r : List ℕ) × Within Sum v × (is_ascii_digit b ≡ false) × (s ≡ optional v ++ (b ∷ r)) × after_sum n o p v b r f
  sum_form f s q = elim (cases_Bool (is_press f.direction)) [ inl e ↦ press e | inr e ↦ other e ]
    where
      other : is_press f.direction ≡ false → (v : Option ℕ) × (b : ℕ) × (r : List ℕ) × Within Sum v × (is_ascii_digit b ≡ false) × (s ≡ optional v ++ (b ∷ r)) × after_sum n o p v b r f
      other e = (Some (f.sum + 1), 58, (48 + direction_number f.direction) ∷ closing f, (omega arith, omega (arith, q.0.0.sum_fits)), refl, q.4 ∙ ap (λ x. decimal (f.sum + 1) ++ (x ++ closing f)) (event_other f.direction e), ((q.0, q.1, q.2, q.3, sym (one_up f.sum)), e, refl))

      press : is_press f.direction ≡ true → (v : Option ℕ) × (b : ℕ) × (r : List ℕ) × Within Sum v × (is_ascii_digit b ≡ false) × (s ≡ optional v ++ (b ∷ r)) × after_sum n o p v b r f
      press e =
          let t = closing_form f.text f.last in
          (Some (f.sum + 1), t.0, t.1, (omega arith, omega (arith, q.0.0.sum_fits)), t.2, q.4 ∙ ap (λ x. decimal (f.sum + 1) ++ (x ++ closing f)) (event_press f.direction e) ∙ ap (λ x. decimal (f.sum + 1) ++ x) (sym t.4), choose_other t.0 58 (AtEvent (headed n o p (f.sum + 1 - 1) Press) t.1 f) (AtClosing (headed n o p (f.sum + 1 - 1) Press) t.0 t.1 f) t.3 ((q.0, q.1, q.2, q.3, sym (one_up f.sum), press_is f.direction e), t.4))

  sum_join : (f : Fields) (v : Option ℕ) (b : ℕ) (r : List ℕ) → Within Sum v → after_sum n o p v b r f → AtSum n o p (optional v ++ (b ∷ r)) f
  sum_join f None b r w q = absurd q
  sum_join f (Some k) b r w q = elim (chosen b 58 q) [ inl x ↦ (x.1.0.0, x.1.0.1, x.1.0.2, x.1.0.3, ap (λ y. decimal k ++ y) (early x.0 x.1) ∙ same x.1.0.4) | inr x ↦ (x.1.0.0, x.1.0.1, x.1.0.2, x.1.0.3, ap (λ y. decimal k ++ y) (late x.1) ∙ same x.1.0.4) ]
    where
      early : b ≡ 58 → AtEvent (headed n o p (k - 1) Press) r f → b ∷ r ≡ event f.direction ++ closing f
      early e x = cc (e, x.2) ∙ ap (λ y. y ++ closing f) (sym (event_other f.direction x.1))

      late : AtClosing (headed n o p (k - 1) Press) b r f → b ∷ r ≡ event f.direction ++ closing f
      late x = x.1 ∙ ap (λ y. event y ++ closing f) (sym x.0.5)

      same : f.sum ≡ k - 1 → decimal k ++ (event f.direction ++ closing f) ≡ held f
      same e = let h : k ≡ f.sum + 1 = omega (arith, e, w.0) in ap (λ y. decimal y ++ (event f.direction ++ closing f)) h

  sum_opens : n ≤ 1114111 → Coded o → Coded p → (v : Option ℕ) → Within Sum v → (f : Fields) × (b : ℕ) × (r : List ℕ) × AtSum n o p (optional v ++ (b ∷ r)) f
  sum_opens a c d None w =
      let h = headed n o p 0 Press in
      (filled h U [], 49, 117 ∷ [], (long_u h [] (a, c, d, omega arith) refl (omega arith), refl, refl, refl, ap (λ x. x ++ (117 ∷ [])) (sym (decimal_digit 1 (omega arith)))))
  sum_opens a c d (Some k) w =
      let h = headed n o p (k - 1) Press in
      let e : k ≡ k - 1 + 1 = omega (arith, w.0) in
      (filled h U [], 117, [], (long_u h [] (a, c, d, omega (arith, w.1)) refl (omega arith), refl, refl, refl, ap (λ x. decimal x ++ (117 ∷ [])) e))

  pub sum_stage : n ≤ 1114111 → Coded o → Coded p → Stage Sum (AtSum n o p) (after_sum n o p)
  sum_stage a c d = record { form = sum_form; join = sum_join; opens = sum_opens a c d }

-- the digit of the direction
module _ (h : Lead) where
  event_form : (f : Fields) (s : List ℕ) → AtEvent h s f → (b : ℕ) × (p : List ℕ) × (r : List ℕ) × Octets p b × (s ≡ p ++ r) × after_event h b r f
  event_form f s q =
      let b = 48 + direction_number f.direction in
      (b, b ∷ [], closing f, (omega (arith, (direction_digit f.direction).1), refl), q.2, (q.0, q.1, refl, refl))

  event_join : (f : Fields) (b : ℕ) (p r : List ℕ) → Octets p b → after_event h b r f → AtEvent h (p ++ r) f
  event_join f b p r x q = (q.0, q.1, ap (λ z. z ++ r) x.1 ∙ cc (q.2, q.3))

  -- a direction that is marked
  event_message : Started h → AtEvent h (51 ∷ 117 ∷ []) (filled (redirected h Release) U [])
  event_message a = ((long_u (redirected h Release) [] a refl (omega arith), refl, refl, refl, refl), refl, refl)

  pub event_chain : Started h → Chain Octets (AtEvent h) (after_event h)
  event_chain a = record { same = octet_same; form = event_form; join = event_join; starts = octet_starts (AtEvent h) (filled (redirected h Release) U []) (51 ∷ 117 ∷ []) (event_message a) (omega arith) }

  module _ (d : Direction) (b : ℕ) (is : 48 + direction_number d ≡ b) (no : is_press d ≡ false) where
    pub mark_event : (f : Fields) (s : List ℕ) → AtMark (redirected h d) s f → after_event h b s f
    mark_event f s q =
        let e = q.0.5 in
        ((q.0.0, q.0.1, q.0.2, q.0.3, q.0.4), ap is_press e ∙ no, ap (λ x. 48 + direction_number x) e ∙ is, q.1)

    pub event_mark : (f : Fields) (s : List ℕ) → after_event h b s f → AtMark (redirected h d) s f
    event_mark f s q =
        let n : direction_number f.direction ≡ direction_number d = omega (arith, q.2, is) in
        ((q.0.0, q.0.1, q.0.2, q.0.3, q.0.4, direction_same f.direction d n), q.3)

  -- the byte after the direction
  mark_form : (f : Fields) (s : List ℕ) → AtMark h s f → (b : ℕ) × (p : List ℕ) × (r : List ℕ) × Octets p b × (s ≡ p ++ r) × AtClosing h b r f
  mark_form f s q =
      let t = closing_form f.text f.last in
      (t.0, t.0 ∷ [], t.1, (t.5, refl), q.1 ∙ sym t.4, (q.0, t.4))

  mark_join : (f : Fields) (b : ℕ) (p r : List ℕ) → Octets p b → AtClosing h b r f → AtMark h (p ++ r) f
  mark_join f b p r x q = (q.0, ap (λ z. z ++ r) x.1 ∙ q.1)

  mark_message : Started h → AtMark h (117 ∷ []) (filled h U [])
  mark_message a = ((long_u h [] a refl (omega arith), refl, refl, refl, refl, refl), refl)

  pub mark_chain : Started h → Chain Octets (AtMark h) (AtClosing h)
  mark_chain a = record { same = octet_same; form = mark_form; join = mark_join; starts = octet_starts (AtMark h) (filled h U []) (117 ∷ []) (mark_message a) (omega arith) }

-- marks after which no sequence goes on
pub number_none : (n b : ℕ) → (b ≡ 58 → ⊥) → (b ≡ 59 → ⊥) → (f : Fields) (s : List ℕ) → after_number (Some n) b s f → ⊥
number_none n b g h f s p = elim (chosen b 58 p) [ inl q ↦ g q.0 | inr q ↦ elim (chosen b 59 q.1) [ inl r ↦ h r.0 | inr r ↦ r.1 ] ]

pub shifted_none : (n c b : ℕ) → (b ≡ 58 → ⊥) → (b ≡ 59 → ⊥) → (f : Fields) (s : List ℕ) → after_shifted n (Some c) b s f → ⊥
shifted_none n c b g h f s p = elim (chosen b 58 p) [ inl q ↦ g q.0 | inr q ↦ elim (chosen b 59 q.1) [ inl r ↦ h r.0 | inr r ↦ r.1 ] ]

pub empty_none : (n b : ℕ) → (b ≡ 58 → ⊥) → (f : Fields) (s : List ℕ) → after_shifted n None b s f → ⊥
empty_none n b g f s p = elim (chosen b 58 p) [ inl q ↦ g q.0 | inr q ↦ q.1 ]

pub base_none : (n : ℕ) (o : Option ℕ) (d b : ℕ) → (b ≡ 59 → ⊥) → (f : Fields) (s : List ℕ) → after_base n o (Some d) b s f → ⊥
base_none n o d b g f s p = elim (chosen b 59 p) [ inl q ↦ g q.0 | inr q ↦ q.1 ]

-- what is closed from the modifiers on, at a mark that is no colon
pub sum_press : (n : ℕ) (o p : Option ℕ) (k b : ℕ) → (b ≡ 58 → ⊥) → (f : Fields) (s : List ℕ) → AtClosing (headed n o p (k - 1) Press) b s f → after_sum n o p (Some k) b s f
sum_press n o p k b h f s q = choose_other b 58 (AtEvent (headed n o p (k - 1) Press) s f) (AtClosing (headed n o p (k - 1) Press) b s f) h q

pub press_sum : (n : ℕ) (o p : Option ℕ) (k b : ℕ) → (b ≡ 58 → ⊥) → (f : Fields) (s : List ℕ) → after_sum n o p (Some k) b s f → AtClosing (headed n o p (k - 1) Press) b s f
press_sum n o p k b h f s q = elim (chosen b 58 q) [ inl x ↦ absurd (h x.0) | inr x ↦ x.1 ]

-- after a colon, a shifted code or none leads to the base code
pub shifted_base : (n : ℕ) (o : Option ℕ) (given : List ℕ) (at : ℕ) (r : Result Told Fault) → Tells (AtBase n o) given at r → Tells (after_shifted n o 58) given at r
shifted_base n None given at r p = p
shifted_base n (Some c) given at r p = p
