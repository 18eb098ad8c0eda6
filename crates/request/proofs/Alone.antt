-- A string of bytes holds its requests in one way only.
use Rattle.std.proofs.Common.{◌≡◌, ℕ, false, List, [], ◌∷◌, ◌++◌, length, sym, refl, ap, ◌∙◌, subst, inl, inr, true≢false, arith}
use Rattle.std.proofs.lemmas.List.{append_assoc, append-nil}
use Rattle.request.specs.declared.Request.{Request}
use Rattle.request.specs.Steps.{digit}
use Rattle.request.specs.Spelling.{Spelled, Push, Pop, Set, SetMode, Query, spell, Digits, Proper, asks, Begins, Whole}
use Rattle.request.specs.Reading.{Ended, Asked, Turn, Goes, Ends, Breaks, left, says, Reads, OneWay}
use Rattle.request.proofs.Digits.{tail, split}
use Rattle.request.proofs.Shapes.{third, after_kind}

-- digits end where the first byte that is none stands
same_end : (f g : List ℕ) (b c : ℕ) (rest after : List ℕ) → Digits f → Digits g → digit b ≡ false → digit c ≡ false → f ++ b ∷ rest ≡ g ++ c ∷ after → (f ≡ g) × (b ≡ c) × (rest ≡ after)
same_end f g b c rest after df dg nb nc e =
    elim (split 0 b c rest after f g df dg nc e) [
      | inl p ↦ p
      | inr p ↦ absurd (true≢false (sym p.0 ∙ nb))
    ]

-- no request begins another, and its bytes say what it asks
prefix : (s u : Spelled) → Proper s → Proper u → (rest : List ℕ) → spell s ++ rest ≡ spell u → (rest ≡ []) × (asks s ≡ asks u)
prefix (Push f) (Push h) k j rest e =
    let p = same_end f h 117 117 rest [] k.0 j.0 refl refl (sym (append_assoc f (117 ∷ []) rest) ∙ ap after_kind e) in
    (p.2, ap (λ x. asks (Push x)) p.0)
prefix (Push f) (Pop h) k j rest e = absurd (omega (arith, ap third e))
prefix (Push f) (Set h) k j rest e = absurd (omega (arith, ap third e))
prefix (Push f) (SetMode h w) k j rest e = absurd (omega (arith, ap third e))
prefix (Push f) Query k j rest e = absurd (omega (arith, ap third e))
prefix (Pop f) (Push h) k j rest e = absurd (omega (arith, ap third e))
prefix (Pop f) (Pop h) k j rest e =
    let p = same_end f h 117 117 rest [] k.0 j.0 refl refl (sym (append_assoc f (117 ∷ []) rest) ∙ ap after_kind e) in
    (p.2, ap (λ x. asks (Pop x)) p.0)
prefix (Pop f) (Set h) k j rest e = absurd (omega (arith, ap third e))
prefix (Pop f) (SetMode h w) k j rest e = absurd (omega (arith, ap third e))
prefix (Pop f) Query k j rest e = absurd (omega (arith, ap third e))
prefix (Set f) (Push h) k j rest e = absurd (omega (arith, ap third e))
prefix (Set f) (Pop h) k j rest e = absurd (omega (arith, ap third e))
prefix (Set f) (Set h) k j rest e =
    let p = same_end f h 117 117 rest [] k.0 j.0 refl refl (sym (append_assoc f (117 ∷ []) rest) ∙ ap after_kind e) in
    (p.2, ap (λ x. asks (Set x)) p.0)
prefix (Set f) (SetMode h w) k j rest e =
    let p = same_end f h 117 59 rest (w ++ 117 ∷ []) k.0 j.0.0 refl refl (sym (append_assoc f (117 ∷ []) rest) ∙ ap after_kind e) in
    absurd (omega (arith, p.1))
prefix (Set f) Query k j rest e = absurd (omega (arith, ap third e))
prefix (SetMode f m) (Push h) k j rest e = absurd (omega (arith, ap third e))
prefix (SetMode f m) (Pop h) k j rest e = absurd (omega (arith, ap third e))
prefix (SetMode f m) (Set h) k j rest e =
    let p = same_end f h 59 117 ((m ++ 117 ∷ []) ++ rest) [] k.0.0 j.0 refl refl (sym (append_assoc f (59 ∷ (m ++ 117 ∷ [])) rest) ∙ ap after_kind e) in
    absurd (omega (arith, p.1))
prefix (SetMode f m) (SetMode h w) k j rest e =
    let p = same_end f h 59 59 ((m ++ 117 ∷ []) ++ rest) (w ++ 117 ∷ []) k.0.0 j.0.0 refl refl (sym (append_assoc f (59 ∷ (m ++ 117 ∷ [])) rest) ∙ ap after_kind e) in
    let q = same_end m w 117 117 rest [] k.1.0 j.1.0 refl refl (sym (append_assoc m (117 ∷ []) rest) ∙ p.2) in
    (q.2, ap (λ x. asks (SetMode x m)) p.0 ∙ ap (λ x. asks (SetMode h x)) q.0)
prefix (SetMode f m) Query k j rest e = absurd (omega (arith, ap third e))
prefix Query (Push h) k j rest e = absurd (omega (arith, ap third e))
prefix Query (Pop h) k j rest e = absurd (omega (arith, ap third e))
prefix Query (Set h) k j rest e = absurd (omega (arith, ap third e))
prefix Query (SetMode h w) k j rest e = absurd (omega (arith, ap third e))
prefix Query Query k j rest e = (ap (λ l. tail (after_kind l)) e, refl)

going_ends : (bs : List ℕ) (q : Request) → Begins bs → Whole bs q → ⊥
going_ends bs q g w =
    let p = prefix w.spelled g.spelled w.proper g.proper (g.byte ∷ g.rest) (ap (λ l. l ++ g.byte ∷ g.rest) (sym w.bytes) ∙ g.bytes) in
    let z : ◌≡◌ {A = ℕ} (length (g.byte ∷ g.rest)) 0 = ap length p.0 in absurd (omega arith)

whole_asks : (bs : List ℕ) (q r : Request) → Whole bs q → Whole bs r → q ≡ r
whole_asks bs q r w v =
    let p = prefix w.spelled v.spelled w.proper v.proper [] (append-nil (spell w.spelled) ∙ sym w.bytes ∙ v.bytes) in
    w.asks_it ∙ p.1 ∙ sym v.asks_it

agree : (p : List ℕ) (b : ℕ) (t u : Turn p b) → (says t ≡ says u) × (left t ≡ left u)
agree p b (Goes g) (Goes h) = (refl, refl)
agree p b (Goes g) (Ends q w) = absurd (going_ends (p ++ b ∷ []) q g w)
agree p b (Goes g) (Breaks m) = absurd (m g.spelled g.proper (g.byte ∷ g.rest) g.bytes)
agree p b (Ends q w) (Goes g) = absurd (going_ends (p ++ b ∷ []) q g w)
agree p b (Ends q w) (Ends r v) = (ap (λ x. Asked x ∷ []) (whole_asks (p ++ b ∷ []) q r w v), refl)
agree p b (Ends q w) (Breaks m) = absurd (m w.spelled w.proper [] (append-nil (p ++ b ∷ []) ∙ w.bytes))
agree p b (Breaks m) (Goes g) = absurd (m g.spelled g.proper (g.byte ∷ g.rest) g.bytes)
agree p b (Breaks m) (Ends q w) = absurd (m w.spelled w.proper [] (append-nil (p ++ b ∷ []) ∙ w.bytes))
agree p b (Breaks m) (Breaks n) = (refl, refl)

alone : (p bs q r : List ℕ) (es ds : List Ended) → Reads p bs es q → Reads p bs ds r → (es ≡ ds) × (q ≡ r)
alone p [] q r es ds x y = (x.0 ∙ sym y.0, x.1 ∙ sym y.1)
alone p (b ∷ bs) q r es ds x y =
    let a = agree p b x.0 y.0 in
    let z = alone (left x.0) bs q r x.1 y.1 x.3 (subst (λ l. Reads l bs y.1 r) (sym a.1) y.3) in
    (x.2 ∙ ap (λ l. l ++ x.1) a.0 ∙ ap (λ l. says y.0 ++ l) z.0 ∙ sym y.2, z.1)

pub one_way : OneWay
one_way bs q r es ds x y = alone [] bs q r es ds x y
