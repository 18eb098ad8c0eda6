-- What one byte comes to, in the words of the spelling.
use Rattle.std.proofs.Common.{◌≡◌, ℕ, ◌+◌, ◌-◌, ◌*◌, Bool, true, false, cond, ◌&&◌, eqb, leb, List, [], ◌∷◌, ◌++◌, Some, None, Option, unwrap_or, sym, refl, ap, ◌∙◌, subst, inl, inr, arith}
use Rattle.std.proofs.lemmas.List.{append_assoc}
use Rattle.std.proofs.lemmas.Bool.{cases_Bool, cond-true, cond-false, eqb-true, eqb-false}
use Rattle.request.specs.declared.State.{State}
use Rattle.request.specs.declared.State.TheVariants as S
use Rattle.request.specs.declared.Request.{Request}
use Rattle.request.specs.declared.Request.TheVariants as R
use Rattle.request.specs.Steps.{Answer, digit, more, stands, ends, spoiled, on, step}
use Rattle.request.specs.Spelling.{Push, Pop, Set, SetMode, Query, Number, Begins, Whole, Misfits, or_else}
use Rattle.request.specs.Reading.{Turn, Goes, Ends, Breaks, left, says, ended, Gives, Pending}
use Rattle.request.proofs.Digits.{head, grown}
use Rattle.request.proofs.Shapes.{kind, second, third, first_is, second_is, third_is, kinds, query_only, push_only, pop_only, set_only, mode_only}

abbrev pub Comes : List ℕ → ℕ → State × Answer → Type 0
Comes p b x = (t : Turn p b) × (says t ≡ ended x.1) × Pending x.0 (left t)

anew_pending : (y : Bool) → Pending (cond y S.Escape S.Start) (cond y (27 ∷ []) [])
anew_pending true = refl
anew_pending false = refl

broken : (p : List ℕ) (b : ℕ) → Misfits (p ++ b ∷ []) → Comes p b (spoiled b)
broken p b m = (Breaks m, refl, anew_pending (eqb b 27))

goes : (p : List ℕ) (b : ℕ) (s : State) → Begins (p ++ b ∷ []) → Pending s (p ++ b ∷ []) → Comes p b (stands s)
goes p b s g h = (Goes g, refl, h)

ends_it : (p : List ℕ) (b : ℕ) (q : Request) → Whole (p ++ b ∷ []) q → Comes p b (ends q)
ends_it p b q w = (Ends q w, refl, refl)

-- a test of the byte: where it passes, and where it does not
tested : (p : List ℕ) (b n : ℕ) (x y : State × Answer) → (b ≡ n → Comes p b x) → ((b ≡ n → ⊥) → Comes p b y) → Comes p b (cond (eqb b n) x y)
tested p b n x y same other =
    elim (cases_Bool (eqb b n)) [
      | inl e ↦ subst (Comes p b) (sym (cond-true _ _ _ e)) (same (eqb-true b n e))
      | inr e ↦ subst (Comes p b) (sym (cond-false _ _ _ e)) (other (eqb-false b n e))
    ]

at_start : (b : ℕ) → Comes [] b (step S.Start b)
at_start b =
    tested [] b 27 _ _
    (λ e. goes [] b S.Escape (record { spelled = Query; proper = tt; byte = 91; rest = 63 ∷ 117 ∷ []; bytes = ap (λ x. x ∷ 91 ∷ 63 ∷ 117 ∷ []) e }) (ap (λ x. x ∷ []) e))
    (λ ne. broken [] b (λ s k rest e. ne (ap head e ∙ first_is s)))

at_escape : (b : ℕ) → Comes (27 ∷ []) b (step S.Escape b)
at_escape b =
    tested (27 ∷ []) b 91 _ _
    (λ e. goes (27 ∷ []) b S.Bracket (record { spelled = Query; proper = tt; byte = 63; rest = 117 ∷ []; bytes = ap (λ x. 27 ∷ x ∷ 63 ∷ 117 ∷ []) e }) (ap (λ x. 27 ∷ x ∷ []) e))
    (λ ne. broken (27 ∷ []) b (λ s k rest e. ne (ap second e ∙ second_is s)))

none : Number []
none = (tt, omega arith)

absent : Gives [] None
absent = (none, λ k. refl)

at_bracket : (b : ℕ) → Comes (27 ∷ 91 ∷ []) b (step S.Bracket b)
at_bracket b =
    let p = 27 ∷ 91 ∷ [] in
    tested p b 62 _ _ (λ e. goes p b (S.Push None) (record { spelled = Push []; proper = none; byte = 117; rest = []; bytes = ap (λ x. 27 ∷ 91 ∷ x ∷ 117 ∷ []) e }) ([], absent, ap (λ x. 27 ∷ 91 ∷ x ∷ []) e))
    (λ n1. tested p b 60 _ _ (λ e. goes p b (S.Pop None) (record { spelled = Pop []; proper = none; byte = 117; rest = []; bytes = ap (λ x. 27 ∷ 91 ∷ x ∷ 117 ∷ []) e }) ([], absent, ap (λ x. 27 ∷ 91 ∷ x ∷ []) e))
    (λ n2. tested p b 61 _ _ (λ e. goes p b (S.Set None) (record { spelled = Set []; proper = none; byte = 117; rest = []; bytes = ap (λ x. 27 ∷ 91 ∷ x ∷ 117 ∷ []) e }) ([], absent, ap (λ x. 27 ∷ 91 ∷ x ∷ []) e))
    (λ n3. tested p b 63 _ _ (λ e. goes p b S.Query (record { spelled = Query; proper = tt; byte = 117; rest = []; bytes = ap (λ x. 27 ∷ 91 ∷ x ∷ 117 ∷ []) e }) (ap (λ x. 27 ∷ 91 ∷ x ∷ []) e))
    (λ n4. broken p b (λ s k rest e.
    let t : b ≡ kind s = ap third e ∙ third_is s in
    elim (kinds s) [
      | inl q ↦ n1 (t ∙ q)
      | inr r ↦ elim r [ inl q ↦ n2 (t ∙ q) | inr u ↦ elim u [ inl q ↦ n3 (t ∙ q) | inr q ↦ n4 (t ∙ q) ] ]
    ])))))

at_query : (b : ℕ) → Comes (27 ∷ 91 ∷ 63 ∷ []) b (step S.Query b)
at_query b =
    let p = 27 ∷ 91 ∷ 63 ∷ [] in
    tested p b 117 _ _ (λ e. ends_it p b R.Query (record { spelled = Query; proper = tt; bytes = ap (λ x. 27 ∷ 91 ∷ 63 ∷ x ∷ []) e; asks_it = refl }))
    (λ ne. broken p b (query_only b ne))

-- the byte as one digit more, or as none
digit_more : (p : List ℕ) (b : ℕ) (n : Option ℕ) (f : ℕ → State) → (digit b && leb (unwrap_or n 0 * 10 + (b - 48)) 65535 ≡ true → Comes p b (stands (f (unwrap_or n 0 * 10 + (b - 48))))) → (digit b && leb (unwrap_or n 0 * 10 + (b - 48)) 65535 ≡ false → Comes p b (spoiled b)) → Comes p b (on f b (more n b))
digit_more p b n f some_more spoils =
    elim (cases_Bool (digit b && leb (unwrap_or n 0 * 10 + (b - 48)) 65535)) [
      | inl e ↦ subst (λ o. Comes p b (on f b o)) (sym (cond-true _ _ _ e)) (some_more e)
      | inr e ↦ subst (λ o. Comes p b (on f b o)) (sym (cond-false _ _ _ e)) (spoils e)
    ]

at_push : (f : List ℕ) (n : Option ℕ) (b : ℕ) → Gives f n → Comes (27 ∷ 91 ∷ 62 ∷ f) b (step (S.Push n) b)
at_push f n b g =
    let p = 27 ∷ 91 ∷ 62 ∷ f in
    tested p b 117 _ _ (λ e. ends_it p b (R.Push (unwrap_or n 0)) (record { spelled = Push f; proper = g.0; bytes = ap (λ x. 27 ∷ 91 ∷ 62 ∷ f ++ x ∷ []) e; asks_it = ap R.Push (g.1 0) }))
    (λ ne. digit_more p b n (λ m. S.Push (Some m))
    (λ e. goes p b (S.Push (Some (unwrap_or n 0 * 10 + (b - 48)))) (record { spelled = Push (f ++ b ∷ []); proper = (grown f n b g e).0; byte = 117; rest = []; bytes = refl }) (f ++ b ∷ [], grown f n b g e, refl))
    (λ e. broken p b (push_only f n b g e ne)))

at_pop : (f : List ℕ) (n : Option ℕ) (b : ℕ) → Gives f n → Comes (27 ∷ 91 ∷ 60 ∷ f) b (step (S.Pop n) b)
at_pop f n b g =
    let p = 27 ∷ 91 ∷ 60 ∷ f in
    tested p b 117 _ _ (λ e. ends_it p b (R.Pop (unwrap_or n 1)) (record { spelled = Pop f; proper = g.0; bytes = ap (λ x. 27 ∷ 91 ∷ 60 ∷ f ++ x ∷ []) e; asks_it = ap R.Pop (g.1 1) }))
    (λ ne. digit_more p b n (λ m. S.Pop (Some m))
    (λ e. goes p b (S.Pop (Some (unwrap_or n 0 * 10 + (b - 48)))) (record { spelled = Pop (f ++ b ∷ []); proper = (grown f n b g e).0; byte = 117; rest = []; bytes = refl }) (f ++ b ∷ [], grown f n b g e, refl))
    (λ e. broken p b (pop_only f n b g e ne)))

at_set : (f : List ℕ) (n : Option ℕ) (b : ℕ) → Gives f n → Comes (27 ∷ 91 ∷ 61 ∷ f) b (step (S.Set n) b)
at_set f n b g =
    let p = 27 ∷ 91 ∷ 61 ∷ f in
    tested p b 117 _ _ (λ e. ends_it p b (R.Set (unwrap_or n 0) 1) (record { spelled = Set f; proper = g.0; bytes = ap (λ x. 27 ∷ 91 ∷ 61 ∷ f ++ x ∷ []) e; asks_it = ap (λ x. R.Set x 1) (g.1 0) }))
    (λ ne. tested p b 59 _ _
    (λ e. goes p b (S.Mode (unwrap_or n 0) None) (record { spelled = SetMode f []; proper = (g.0, none); byte = 117; rest = []; bytes = ap (λ x. 27 ∷ 91 ∷ 61 ∷ (f ++ x ∷ []) ++ 117 ∷ []) e ∙ ap (λ l. 27 ∷ 91 ∷ 61 ∷ l) (append_assoc f (59 ∷ []) (117 ∷ [])) }) (f, [], g.0, g.1 0, absent, ap (λ x. 27 ∷ 91 ∷ 61 ∷ f ++ x ∷ []) e))
    (λ nm. digit_more p b n (λ m. S.Set (Some m))
    (λ e. goes p b (S.Set (Some (unwrap_or n 0 * 10 + (b - 48)))) (record { spelled = Set (f ++ b ∷ []); proper = (grown f n b g e).0; byte = 117; rest = []; bytes = refl }) (f ++ b ∷ [], grown f n b g e, refl))
    (λ e. broken p b (set_only f n b g e ne nm))))

at_mode : (f m : List ℕ) (flags : ℕ) (n : Option ℕ) (b : ℕ) → Number f → flags ≡ or_else 0 f → Gives m n → Comes (27 ∷ 91 ∷ 61 ∷ f ++ 59 ∷ m) b (step (S.Mode flags n) b)
at_mode f m flags n b num is g =
    let p = 27 ∷ 91 ∷ 61 ∷ f ++ 59 ∷ m in
    tested p b 117 _ _ (λ e. ends_it p b (R.Set flags (unwrap_or n 1)) (record { spelled = SetMode f m; proper = (num, g.0); bytes = ap (λ l. 27 ∷ 91 ∷ 61 ∷ l) (append_assoc f (59 ∷ m) (b ∷ [])) ∙ ap (λ x. 27 ∷ 91 ∷ 61 ∷ (f ++ 59 ∷ (m ++ x ∷ []))) e; asks_it = ap (λ x. R.Set x (unwrap_or n 1)) is ∙ ap (R.Set (or_else 0 f)) (g.1 1) }))
    (λ ne. digit_more p b n (λ k. S.Mode flags (Some k))
    (λ e. goes p b (S.Mode flags (Some (unwrap_or n 0 * 10 + (b - 48))))
    (record { spelled = SetMode f (m ++ b ∷ []); proper = (num, (grown m n b g e).0); byte = 117; rest = []; bytes = ap (λ l. 27 ∷ 91 ∷ 61 ∷ l ++ 117 ∷ []) (append_assoc f (59 ∷ m) (b ∷ [])) ∙ ap (λ l. 27 ∷ 91 ∷ 61 ∷ l) (append_assoc f (59 ∷ m ++ b ∷ []) (117 ∷ [])) })
    (f, m ++ b ∷ [], num, is, grown m n b g e, ap (λ l. 27 ∷ 91 ∷ 61 ∷ l) (append_assoc f (59 ∷ m) (b ∷ []))))
    (λ e. broken p b (mode_only f m n b num g e ne)))

pub comes : (s : State) (p : List ℕ) (b : ℕ) → Pending s p → Comes p b (step s b)
comes S.Start p b h = subst (λ q. Comes q b (step S.Start b)) (sym h) (at_start b)
comes S.Escape p b h = subst (λ q. Comes q b (step S.Escape b)) (sym h) (at_escape b)
comes S.Bracket p b h = subst (λ q. Comes q b (step S.Bracket b)) (sym h) (at_bracket b)
comes S.Query p b h = subst (λ q. Comes q b (step S.Query b)) (sym h) (at_query b)
comes (S.Push n) p b h = subst (λ q. Comes q b (step (S.Push n) b)) (sym h.2) (at_push h.0 n b h.1)
comes (S.Pop n) p b h = subst (λ q. Comes q b (step (S.Pop n) b)) (sym h.2) (at_pop h.0 n b h.1)
comes (S.Set n) p b h = subst (λ q. Comes q b (step (S.Set n) b)) (sym h.2) (at_set h.0 n b h.1)
comes (S.Mode flags n) p b h = subst (λ q. Comes q b (step (S.Mode flags n) b)) (sym h.5) (at_mode h.0 h.1 flags n b h.2 h.3 h.4)
