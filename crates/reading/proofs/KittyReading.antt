-- A clear report in the kitty dialect, by its first bytes.
use Rattle.std.proofs.Common.{◌≡◌, ℕ, Bool, true, false, cond, List, [], ◌∷◌, ◌++◌, Some, None, decimal, Option, sym, refl, ap, ◌∙◌, subst, inl, inr, arith, length-append}
use Rattle.std.specs.Char.{is_ascii_digit}
use Rattle.std.proofs.lemmas.Fmt.{decimal_digit}
use Rattle.std.proofs.lemmas.List.{append_assoc}
use Rattle.report.specs.Meanings.{Meaning, Fields, Sound, text, old, answer, sequence}
use Rattle.dialect.specs.KittyBytes.{optional, parts, plain, kitty_bytes}
use Rattle.dialect.specs.KittyLaws.{escape_is, form, form_not}
use Rattle.dialect.proofs.StreamLaws.{fronts}
use Rattle.pieces.specs.declared.found.Range.TheVariants.{Flags}
use Rattle.pieces.specs.Languages.{Takes, whole, part}
use Rattle.pieces.specs.Letters.{Characters}
use Rattle.pieces.specs.Runs.{Within}
use Rattle.pieces.proofs.Stages.{Stage}
use Rattle.sequences.specs.Parts.{AtNumber}
use Rattle.sequences.proofs.SequenceLaws.{chosen}
use Rattle.reading.specs.Kitty.{AtFlags, after_flags, short_form}
use Rattle.pieces.specs.Reports.{Spoken}

abbrev InKitty : List ℕ → Meaning → Type 0
InKitty = Spoken kitty_bytes

-- the flags of an answer
flags_form : (m : Meaning) (s : List ℕ) → AtFlags s m → (o : Option ℕ) × (b : ℕ) × (r : List ℕ) × Within Flags o × (is_ascii_digit b ≡ false) × (s ≡ optional o ++ (b ∷ r)) × after_flags o b r m
flags_form m s p = (Some p.0, 117, [], (omega arith, p.2), refl, p.3, (p.1, refl))

flags_join : (m : Meaning) (o : Option ℕ) (b : ℕ) (r : List ℕ) → Within Flags o → after_flags o b r m → AtFlags (optional o ++ (b ∷ r)) m
flags_join m None b r w p = absurd p
flags_join m (Some n) b r w p = elim (chosen b 117 p) [ inl q ↦ (n, q.1.0, w.1, cc (q.0, q.1.1)) | inr q ↦ absurd q.1 ]

flags_opens : (o : Option ℕ) → Within Flags o → (m : Meaning) × (b : ℕ) × (r : List ℕ) × AtFlags (optional o ++ (b ∷ r)) m
flags_opens None w = (answer 0, 48, 117 ∷ [], (0, refl, omega arith, ap (λ x. x ++ (117 ∷ [])) (sym (decimal_digit 0 (omega arith)))))
flags_opens (Some n) w = (answer n, 117, [], (n, refl, w.1, refl))

pub flags_stage : Stage Flags AtFlags after_flags
flags_stage = record { form = flags_form; join = flags_join; opens = flags_opens }

pub flags_none : (n b : ℕ) → (b ≡ 117 → ⊥) → (m : Meaning) (s : List ℕ) → after_flags (Some n) b s m → ⊥
flags_none n b h m s p = elim (chosen b 117 p) [ inl q ↦ h q.0 | inr q ↦ q.1 ]

-- the short form is a report
short_sound : Sound short_form
short_sound = record { number_fits = omega arith; shifted_fits = tt; base_fits = tt; sum_fits = omega arith; characters_are = refl; few = omega arith; suits = ((refl, refl, refl), refl) }

short_kitty : InKitty (27 ∷ 91 ∷ 69 ∷ []) (sequence short_form)
short_kitty = ((short_sound, tt), refl)

-- ESC [ and its fronts only begin a report
pub part_front : (given v : List ℕ) → given ++ v ≡ 27 ∷ 91 ∷ [] → Takes InKitty given part
part_front given v e = (sequence short_form, v ++ (69 ∷ []), simp length-append (omega arith), subst (λ s. InKitty s (sequence short_form)) (ap (λ s. s ++ (69 ∷ [])) (sym e) ∙ append_assoc given v (69 ∷ [])) short_kitty)

pub whole_short : (g : List ℕ) → Takes InKitty (27 ∷ 91 ∷ 69 ∷ g) (whole (sequence short_form) g)
whole_short g = (27 ∷ 91 ∷ 69 ∷ [], short_kitty, refl)

-- ESC [ and a byte other than ? and E
pub number_to : (f : Fields) (s : List ℕ) → AtNumber s f → InKitty (27 ∷ 91 ∷ s) (sequence f)
number_to f s p = ((p.0.0, tt), ap (λ x. 27 ∷ 91 ∷ x) p.1 ∙ ap (λ b. 27 ∷ 91 ∷ cond b (69 ∷ []) (parts f)) (sym p.0.1))

module _ (g : List ℕ) (some : (v : List ℕ) → (27 ∷ 91 ∷ g) ++ v ≡ 27 ∷ 91 ∷ [] → ⊥) (begin : (v : List ℕ) → g ≡ 69 ∷ v → ⊥) (ask : (v : List ℕ) → g ≡ 63 ∷ v → ⊥) where
  other : (b : ℕ) (t u : List ℕ) → ((v : List ℕ) → g ≡ b ∷ v → ⊥) → b ∷ t ≡ g ++ u → ⊥
  other b t u h e = go g h some e
    where
      go : (g : List ℕ) → ((v : List ℕ) → g ≡ b ∷ v → ⊥) → ((v : List ℕ) → (27 ∷ 91 ∷ g) ++ v ≡ 27 ∷ 91 ∷ [] → ⊥) → b ∷ t ≡ g ++ u → ⊥
      go [] h k e = k [] refl
      go (x ∷ xs) h k e = h xs (let z : b ≡ x = cc (e) in ap (λ y. y ∷ xs) (sym z))

  pub number_from : (m : Meaning) (s t u : List ℕ) → InKitty s m → s ++ t ≡ (27 ∷ 91 ∷ []) ++ (g ++ u) → (f : Fields) × (r : List ℕ) × AtNumber r f × (s ≡ (27 ∷ 91 ∷ []) ++ r)
  number_from (text c) s t u p e = absurd (p.0.1 (escape_is c t (91 ∷ (g ++ u)) (ap (λ x. x ++ t) (sym p.1) ∙ e)))
  number_from (old c) s t u p e = absurd p.0.1
  number_from (answer n) s t u p e =
      let x : 27 ∷ 91 ∷ 63 ∷ ((decimal n ++ (117 ∷ [])) ++ t) ≡ 27 ∷ 91 ∷ (g ++ u) = ap (λ y. y ++ t) (sym p.1) ∙ e in
      absurd (other 63 ((decimal n ++ (117 ∷ [])) ++ t) u ask (cc (x)))
  number_from (sequence f) s t u p e = go (plain f) refl
    where
      go : (v : Bool) → plain f ≡ v → (f : Fields) × (r : List ℕ) × AtNumber r f × (s ≡ (27 ∷ 91 ∷ []) ++ r)
      go true i =
          let j : s ≡ 27 ∷ 91 ∷ 69 ∷ [] = p.1 ∙ ap (λ v. 27 ∷ 91 ∷ cond v (69 ∷ []) (parts f)) i in
          let x : 27 ∷ 91 ∷ 69 ∷ t ≡ 27 ∷ 91 ∷ (g ++ u) = ap (λ y. y ++ t) (sym j) ∙ e in
          absurd (other 69 t u begin (cc (x)))
      go false i = (f, parts f, ((p.0.0, i), refl), p.1 ∙ ap (λ v. 27 ∷ 91 ∷ cond v (69 ∷ []) (parts f)) i)

-- ESC [ ?
pub flags_to : (m : Meaning) (s : List ℕ) → AtFlags s m → InKitty (27 ∷ 91 ∷ 63 ∷ s) m
flags_to m s p = subst (λ x. InKitty (27 ∷ 91 ∷ 63 ∷ s) x) (sym p.1) ((p.2, tt), ap (λ x. 27 ∷ 91 ∷ 63 ∷ x) p.3)

pub flags_from : (g : List ℕ) (m : Meaning) (s t u : List ℕ) → InKitty s m → s ++ t ≡ (27 ∷ 91 ∷ 63 ∷ []) ++ (g ++ u) → (n : Meaning) × (r : List ℕ) × AtFlags r n × (s ≡ (27 ∷ 91 ∷ 63 ∷ []) ++ r)
flags_from g (text c) s t u p e = absurd (p.0.1 (escape_is c t (91 ∷ 63 ∷ (g ++ u)) (ap (λ x. x ++ t) (sym p.1) ∙ e)))
flags_from g (old c) s t u p e = absurd p.0.1
flags_from g (answer n) s t u p e = (answer n, decimal n ++ (117 ∷ []), (n, refl, p.0.0, refl), p.1)
flags_from g (sequence f) s t u p e = absurd (form_not (plain f) f t (g ++ u) p.0.0 (let x : 27 ∷ 91 ∷ (form (plain f) f ++ t) ≡ 27 ∷ 91 ∷ 63 ∷ (g ++ u) = ap (λ y. y ++ t) (sym p.1) ∙ e in cc (x)))

-- bytes that do not begin with ESC [, nor begin it
pub letter_to : (c : ℕ) (s : List ℕ) → Characters s c → InKitty s (text c)
letter_to c s p = ((p.0, p.1), p.2)

module _ (given : List ℕ) (after : (v : List ℕ) → (27 ∷ 91 ∷ []) ++ v ≡ given → ⊥) (before : (v : List ℕ) → given ++ v ≡ 27 ∷ 91 ∷ [] → ⊥) where
  escaped : (r u : List ℕ) → 27 ∷ 91 ∷ r ≡ given ++ u → ⊥
  escaped r u e = elim (fronts (27 ∷ 91 ∷ []) given r u e) [ inl p ↦ after p.0 p.1 | inr p ↦ before p.0 p.1 ]

  pub letter_from : (m : Meaning) (s t u : List ℕ) → InKitty s m → s ++ t ≡ [] ++ (given ++ u) → (c : ℕ) × (r : List ℕ) × Characters r c × (s ≡ [] ++ r)
  letter_from (text c) s t u p e = (c, s, (p.0.0, p.0.1, p.1), refl)
  letter_from (old c) s t u p e = absurd p.0.1
  letter_from (answer n) s t u p e = absurd (escaped ((63 ∷ (decimal n ++ (117 ∷ []))) ++ t) u (ap (λ y. y ++ t) (sym p.1) ∙ e))
  letter_from (sequence f) s t u p e = absurd (escaped (cond (plain f) (69 ∷ []) (parts f) ++ t) u (ap (λ y. y ++ t) (sym p.1) ∙ e))
