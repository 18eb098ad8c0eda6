-- The text of a sequence, and its final byte.
use Rattle.std.proofs.Common.{◌≡◌, ℕ, ◌+◌, ◌*◌, ◌<◌, ◌≤◌, Bool, true, false, cond, ◌&&◌, ltb, leb, ◌⊎◌, List, [], ◌∷◌, ◌++◌, length, drop, Some, None, Ok, Err, decimal, Option, Result, sym, refl, ap, ◌∙◌, subst, inl, inr, arith, length-append}
use lib.Utf8.{scalar, scalars, low_scalar}
use Rattle.std.specs.Char.{is_ascii_digit}
use Rattle.std.proofs.lemmas.Fmt.{decimal_digit}
use Rattle.std.proofs.lemmas.List.{append_assoc}
use Rattle.std.proofs.lemmas.Bool.{cases_lt, cases_Bool, and_parts, and_from, lt-ltb, le-ltb, le-leb}
use Rattle.report.specs.declared.ending.Last.{Last}
use Rattle.report.specs.declared.ending.Last.TheVariants.{U, Tilde, Up, Down, Right, Left, Begin, End, Home}
use Rattle.report.specs.Made.{parted}
use Rattle.report.specs.Meanings.{Fields, Sound, Suits}
use Rattle.report.specs.Pushes.{Pushed}
use Rattle.report.proofs.Rows.{scalars_end}
use Rattle.report.specs.Endings.{last_byte}
use Rattle.dialect.specs.KittyBytes.{optional, further, typed}
use Rattle.report.specs.EndingLaws.{last_high, last_same}
use Rattle.dialect.specs.KittyLaws.{scalar_coded}
use Rattle.pieces.specs.declared.found.Fault.{Fault}
use Rattle.pieces.specs.declared.found.Fault.TheVariants.{Unknown}
use Rattle.pieces.specs.declared.found.Range.TheVariants.{Code}
use Rattle.pieces.specs.Languages.{Takes, whole}
use Rattle.pieces.specs.Runs.{Within}
use Rattle.pieces.proofs.Extending.{decimal_extend}
use Rattle.pieces.proofs.Stages.{Stage}
use Rattle.sequences.specs.Leads.{Lead}
use Rattle.sequences.specs.declared.told.Told.{Told}
use Rattle.sequences.specs.Parts.{Long, Headed, AtClosing, AtText, AtEnd, after_character, Started, filled, Tells, Makes}
use Rattle.sequences.proofs.SequenceLaws.{chosen, long_u}

-- a character more, where there is room
pub pushed : (c n m : ℕ) (cs ds : List ℕ) (b : Bool) → n < 32 → Pushed c n cs m ds b → (m ≡ n + 1) × (ds ≡ cs ++ c ∷ [])
pushed c n m cs ds true l p = (p.1, p.2)
pushed c n m cs ds false l p = absurd (omega (arith, p.0))

pub scalars_at : (cs : List ℕ) (c : ℕ) (ds : List ℕ) → scalars (cs ++ (c ∷ ds)) ≡ true → scalar c ≡ true
scalars_at [] c ds v = (and_parts (scalar c) (scalars ds) v).0
scalars_at (x ∷ cs) c ds v = scalars_at cs c ds (and_parts (scalar x) (scalars (cs ++ (c ∷ ds))) v).1

some_text : (cs : List ℕ) (c : ℕ) (ds : List ℕ) → cs ++ (c ∷ ds) ≡ [] → ⊥
some_text cs c ds e = let l = simp length-append at (ap length e) in omega (arith, l)

-- only the final u has text
text_u : (f : Fields) (l : Last) → Suits l f → (f.text ≡ [] → ⊥) → l ≡ U
text_u f U s h = refl
text_u f Tilde s h = absurd (h s.2)
text_u f Up s h = absurd (h s.0.2)
text_u f Down s h = absurd (h s.0.2)
text_u f Right s h = absurd (h s.0.2)
text_u f Left s h = absurd (h s.0.2)
text_u f Begin s h = absurd (h s.0.2)
text_u f End s h = absurd (h s.0.2)
text_u f Home s h = absurd (h s.0.2)

-- a number that is no character has a digit more in one
surrogate_more : (c : ℕ) → c ≤ 1114111 → scalar c ≡ false → (0 < c) × (scalar (c * 10 + 0) ≡ true)
surrogate_more c k e = elim (cases_lt c 55296) [
  | inl h ↦ (let z : ◌≡◌ {A = ℕ} 0 1 = cc (e, low_scalar c h) in absurd (omega arith))
  | inr h ↦ elim (cases_lt c 57344) [
    | inl g ↦ (omega arith, ap (λ x. cond x true (leb 57344 (c * 10 + 0) && ltb (c * 10 + 0) 1114112)) (le-ltb (c * 10 + 0) 55296 (omega arith)) ∙ and_from (leb 57344 (c * 10 + 0)) (ltb (c * 10 + 0) 1114112) (le-leb 57344 (c * 10 + 0) (omega arith)) (lt-ltb (c * 10 + 0) 1114112 (omega arith)))
    | inr g ↦ (let yes : scalar c ≡ true = ap (λ x. cond x true (leb 57344 c && ltb c 1114112)) (le-ltb c 55296 h) ∙ and_from (leb 57344 c) (ltb c 1114112) (le-leb 57344 c g) (lt-ltb c 1114112 (omega arith)) in
        let z : ◌≡◌ {A = ℕ} 0 1 = cc (e, yes) in absurd (omega arith))
  ]
]

module _ (h : Lead) (cs : List ℕ) where
  text_form : (f : Fields) (s : List ℕ) → AtText h cs s f → (v : Option ℕ) × (b : ℕ) × (r : List ℕ) × Within Code v × (is_ascii_digit b ≡ false) × (s ≡ optional v ++ (b ∷ r)) × after_character h cs v b r f
  text_form f s p = go p.1.1 p.1.2 p.1.3
    where
      go : (ds : List ℕ) → f.text ≡ cs ++ (p.1.0 ∷ ds) → s ≡ decimal p.1.0 ++ (further ds ++ (last_byte f.last ∷ [])) → (v : Option ℕ) × (b : ℕ) × (r : List ℕ) × Within Code v × (is_ascii_digit b ≡ false) × (s ≡ optional v ++ (b ∷ r)) × after_character h cs v b r f
      go [] e g =
          let c = p.1.0 in
          let low = scalar_coded c (scalars_at cs c [] (subst (λ x. scalars x ≡ true) e p.0.0.0.characters_are)) in
          let u = text_u f f.last p.0.0.0.suits (λ z. some_text cs c [] (sym e ∙ z)) in
          (Some c, 117, [], (omega arith, low), refl, g ∙ ap (λ x. decimal c ++ (last_byte x ∷ [])) u, (p.0, e, u, refl))
      go (d ∷ ds) e g =
          let c = p.1.0 in
          let low = scalar_coded c (scalars_at cs c (d ∷ ds) (subst (λ x. scalars x ≡ true) e p.0.0.0.characters_are)) in
          (Some c, 58, decimal d ++ (further ds ++ (last_byte f.last ∷ [])), (omega arith, low), refl, g ∙ ap (λ x. decimal c ++ (58 ∷ x)) (append_assoc (decimal d) (further ds) (last_byte f.last ∷ [])), (p.0, (d, ds, e ∙ sym (append_assoc cs (c ∷ []) (d ∷ ds)), refl)))

  text_join : (f : Fields) (v : Option ℕ) (b : ℕ) (r : List ℕ) → Within Code v → after_character h cs v b r f → AtText h cs (optional v ++ (b ∷ r)) f
  text_join f None b r w p = absurd p
  text_join f (Some c) b r w p = elim (chosen b 58 p) [ inl q ↦ more q.0 q.1 | inr q ↦ later (chosen b 117 q.1) ]
    where
      more : b ≡ 58 → AtText h (cs ++ (c ∷ [])) r f → AtText h cs (decimal c ++ (b ∷ r)) f
      more e q =
          let d = q.1.0 in
          let ds = q.1.1 in
          (q.0, (c, d ∷ ds, q.1.2 ∙ append_assoc cs (c ∷ []) (d ∷ ds), ap (λ x. decimal c ++ (x ∷ r)) e ∙ ap (λ x. decimal c ++ (58 ∷ x)) (q.1.3 ∙ sym (append_assoc (decimal d) (further ds) (last_byte f.last ∷ [])))))

      later : ((b ≡ 117) × AtEnd h (cs ++ (c ∷ [])) r f) ⊎ ((b ≡ 117 → ⊥) × ⊥) → AtText h cs (decimal c ++ (b ∷ r)) f
      later (inl q) = (q.1.0, (c, [], q.1.1, ap (λ x. decimal c ++ (x ∷ r)) q.0 ∙ ap (λ x. decimal c ++ (117 ∷ x)) q.1.3 ∙ ap (λ x. decimal c ++ (last_byte x ∷ [])) (sym q.1.2)))
      later (inr q) = absurd q.1

  module _ (a : Started h) (v : scalars cs ≡ true) (l : length cs < 32) where
    one_more : (c : ℕ) → scalar c ≡ true → Headed h (filled h U (cs ++ (c ∷ [])))
    one_more c s = (long_u h (cs ++ (c ∷ [])) a (scalars_end cs c v s) (simp length-append (omega arith)), refl, refl, refl, refl, refl)

    text_opens : (o : Option ℕ) → Within Code o → (f : Fields) × (b : ℕ) × (r : List ℕ) × AtText h cs (optional o ++ (b ∷ r)) f
    text_opens None w = (filled h U (cs ++ (0 ∷ [])), 48, 117 ∷ [], (one_more 0 refl, (0, [], refl, ap (λ x. x ++ (117 ∷ [])) (sym (decimal_digit 0 (omega arith))))))
    text_opens (Some c) w = elim (cases_Bool (scalar c)) [
      | inl s ↦ (filled h U (cs ++ (c ∷ [])), 117, [], (one_more c s, (c, [], refl, refl)))
      | inr s ↦ (let q = surrogate_more c w.1 s in
          (filled h U (cs ++ ((c * 10 + 0) ∷ [])), 48, 117 ∷ [], (one_more (c * 10 + 0) q.1, (c * 10 + 0, [], refl, sym (ap (λ x. x ++ (117 ∷ [])) (decimal_extend c 0 q.0 (omega arith) (omega (arith, w.1))) ∙ append_assoc (decimal c) (48 ∷ []) (117 ∷ []))))))
    ]

    pub text_stage : Stage Code (AtText h cs) (after_character h cs)
    text_stage = record { form = text_form; join = text_join; opens = text_opens }

  -- no text has more than 32 characters
  pub text_full : 32 ≤ length cs → (f : Fields) (s : List ℕ) → AtText h cs s f → ⊥
  text_full l f s p =
      let k = simp length-append at (ap length p.1.2) in
      omega (arith, k, p.0.0.0.few)

-- the text, where there is one
pub closing_text : (h : Lead) (f : Fields) (s : List ℕ) → AtClosing h 59 s f → AtText h [] s f
closing_text h f s p = go f.text refl
  where
    go : (cs : List ℕ) → f.text ≡ cs → AtText h [] s f
    go [] e =
        let q : 59 ∷ s ≡ last_byte f.last ∷ [] = p.1 ∙ ap (λ x. typed x ++ (last_byte f.last ∷ [])) e in
        let z : 59 ≡ last_byte f.last = cc (q) in
        absurd (omega (arith, last_high f.last))
    go (c ∷ cs) e =
        let q : 59 ∷ s ≡ 59 ∷ ((decimal c ++ further cs) ++ (last_byte f.last ∷ [])) = p.1 ∙ ap (λ x. typed x ++ (last_byte f.last ∷ [])) e in
        let r : s ≡ (decimal c ++ further cs) ++ (last_byte f.last ∷ []) = cc (q) in
        (p.0, (c, cs, e, r ∙ append_assoc (decimal c) (further cs) (last_byte f.last ∷ [])))

pub text_closing : (h : Lead) (f : Fields) (s : List ℕ) → AtText h [] s f → AtClosing h 59 s f
text_closing h f s p =
    let c = p.1.0 in
    let cs = p.1.1 in
    (p.0, ap (λ x. 59 ∷ x) (p.1.3 ∙ sym (append_assoc (decimal c) (further cs) (last_byte f.last ∷ []))) ∙ ap (λ x. typed x ++ (last_byte f.last ∷ [])) (sym p.1.2))

-- the final byte, where there is no text
closing_last : (cs : List ℕ) (l : Last) (b : ℕ) (s : List ℕ) → (b ≡ 59 → ⊥) → b ∷ s ≡ typed cs ++ (last_byte l ∷ []) → (cs ≡ []) × (last_byte l ≡ b) × (s ≡ [])
closing_last [] l b s h e = (refl, cc, cc)
closing_last (c ∷ cs) l b s h e = let z : b ≡ 59 = cc in absurd (h z)

-- a sequence is told by its parts
headed_is : (h : Lead) (f : Fields) (l : Last) (cs : List ℕ) → Headed h f → f.last ≡ l → f.text ≡ cs → f ≡ filled h l cs
headed_is h f l cs p e g =
    let all : parted f.number f.shifted f.base f.sum f.direction f.last f.text ≡ parted h.number h.shifted h.base h.sum h.direction l cs = cc (p.1, p.2, p.3, p.4, p.5, e, g) in
    all

-- where the parts are all read, they make the sequence, or there is none
made_tells : (L : List ℕ → Fields → Type 0) (f : Fields) (given : List ℕ) (at : ℕ) → at ≤ length given → (Long f → L [] f) → ((m : Fields) (s : List ℕ) → L s m → Long m × (m ≡ f)) → (r : Result Told Fault) → Makes f at r → Tells L given at r
made_tells L f given at place to from (Ok t) p =
    (subst (λ g. Takes L (drop at given) (whole g (drop t.next given))) (sym p.0) (subst (λ n. Takes L (drop at given) (whole f (drop n given))) (sym p.2) ([], to p.1, refl)), omega (arith, p.2))
made_tells L f given at place to from (Err e) p = subst (λ x. Tells L given at (Err x)) (sym p.0) (λ m s t u i _. p.1 (subst Long (from m s i).1 (from m s i).0))

pub closing_made : (h : Lead) (b : ℕ) (l : Last) (given : List ℕ) (at : ℕ) → (b ≡ 59 → ⊥) → last_byte l ≡ b → at ≤ length given → (r : Result Told Fault) → Makes (filled h l []) at r → Tells (AtClosing h b) given at r
closing_made h b l given at other is place r p = made_tells (AtClosing h b) (filled h l []) given at place to from r p
  where
    to : Long (filled h l []) → AtClosing h b [] (filled h l [])
    to v = ((v, refl, refl, refl, refl, refl), ap (λ x. x ∷ []) (sym is))

    from : (m : Fields) (s : List ℕ) → AtClosing h b s m → Long m × (m ≡ filled h l [])
    from m s q =
        let e = closing_last m.text m.last b s other q.1 in
        (q.0.0, headed_is h m l [] q.0 (last_same m.last l (e.1 ∙ sym is)) e.0)

-- a byte that ends no sequence
pub closing_none : (h : Lead) (b : ℕ) (given : List ℕ) (at : ℕ) → (b ≡ 59 → ⊥) → ((l : Last) → last_byte l ≡ b → ⊥) → Tells (AtClosing h b) given at (Err Unknown)
closing_none h b given at other none m s t u q e = none m.last (closing_last m.text m.last b s other q.1).1

pub text_made : (h : Lead) (cs given : List ℕ) (at : ℕ) → at ≤ length given → (r : Result Told Fault) → Makes (filled h U cs) at r → Tells (AtEnd h cs) given at r
text_made h cs given at place r p = made_tells (AtEnd h cs) (filled h U cs) given at place (λ v. ((v, refl, refl, refl, refl, refl), refl, refl, refl)) (λ m s q. (q.0.0, headed_is h m U cs q.0 q.2 q.1)) r p

-- a number that is no character, or a mark after which no text goes on
pub text_none : (h : Lead) (cs : List ℕ) (c b : ℕ) → (b ≡ 58 → ⊥) → (b ≡ 117 → ⊥) → (f : Fields) (s : List ℕ) → after_character h cs (Some c) b s f → ⊥
text_none h cs c b g k f s p = elim (chosen b 58 p) [ inl q ↦ g q.0 | inr q ↦ elim (chosen b 117 q.1) [ inl r ↦ k r.0 | inr r ↦ r.1 ] ]

pub text_strange : (h : Lead) (cs : List ℕ) (v : Option ℕ) (b : ℕ) → ((c : ℕ) → v ≡ Some c → scalar c ≡ true → ⊥) → (f : Fields) (s : List ℕ) → after_character h cs v b s f → ⊥
text_strange h cs None b k f s p = p
text_strange h cs (Some c) b k f s p = elim (chosen b 58 p) [
  | inl q ↦ inner (q.1.1.0 ∷ q.1.1.1) q.1.0.0.0 (q.1.1.2 ∙ append_assoc cs (c ∷ []) (q.1.1.0 ∷ q.1.1.1))
  | inr q ↦ elim (chosen b 117 q.1) [ inl r ↦ inner [] r.1.0.0.0 r.1.1 | inr r ↦ r.1 ]
]
  where
    inner : (ds : List ℕ) → Sound f → f.text ≡ cs ++ (c ∷ ds) → ⊥
    inner ds a e = k c refl (scalars_at cs c ds (subst (λ x. scalars x ≡ true) e a.characters_are))
