-- A number of a range, one digit more at a time.
use Rattle.std.proofs.Common.{◌≡◌, ℕ, ◌+◌, ◌-◌, ◌*◌, ◌<◌, ◌≤◌, Bool, true, false, cond, ◌&&◌, ltb, leb, List, [], ◌∷◌, ◌++◌, length, get_or, drop, Some, None, decimal, Option, sym, refl, ap, ◌∙◌, inl, inr, arith, length-append, ltb-true, lt-ltb, le-leb, leb-true}
use Rattle.std.specs.Char.{is_ascii_digit}
use Rattle.std.specs.Str.{all_ascii_digits}
use Rattle.std.proofs.lemmas.Fmt.{decimal_digit}
use Rattle.std.proofs.lemmas.List.{append-nil, append_assoc, drop_more, drop_all}
use Rattle.std.proofs.lemmas.Bool.{cases_lt, and_parts, and_from, and_cases, both_ways, leb-false}
use Rattle.dialect.specs.KittyBytes.{optional}
use Rattle.dialect.specs.Numbers.{all_digits}
use Rattle.pieces.specs.Languages.{Takes, whole, part, nothing}
use Rattle.pieces.specs.declared.found.Range.{Range}
use Rattle.pieces.specs.declared.found.Range.TheVariants.{Code, Sum, Flags}
use Rattle.pieces.specs.Ranges.{least, most, longer}
use Rattle.pieces.specs.Runs.{Run, Runs, Within}
use Rattle.pieces.proofs.Extending.{decimal_extend, zero_alone, front_le, digits_go_on}

pub most_fits : (range : Range) → most range ≤ 1114111
most_fits Code = omega arith
most_fits Sum = omega arith
most_fits Flags = omega arith

least_low : (range : Range) → least range ≤ 1
least_low Code = omega arith
least_low Sum = omega arith
least_low Flags = omega arith

optional_digits : (range : Range) (o : Option ℕ) → Within range o → all_ascii_digits (optional o) ≡ true
optional_digits range None w = refl
optional_digits range (Some n) w = all_digits n (omega (arith, w.1, most_fits range))

some_of : (t : Bool) (x n : ℕ) → cond t (Some x) None ≡ Some n → (t ≡ true) × (x ≡ n)
some_of true x n e = (refl, cc)
some_of false x n e = let z : ◌≡◌ {A = ℕ} 0 1 = cc in absurd (omega arith)

none_of : (t : Bool) (x : ℕ) → cond t (Some x) None ≡ None → t ≡ false
none_of true x e = let z : ◌≡◌ {A = ℕ} 0 1 = cc in absurd (omega arith)
none_of false x e = refl

longer_keeps : (range : Range) (o : Option ℕ) (d n : ℕ) → d ≤ 9 → Within range o → longer o d (least range) (most range) ≡ Some n → Within range (Some n) × (optional (Some n) ≡ optional o ++ ((48 + d) ∷ []))
longer_keeps range None d n i w e =
    let p = some_of (leb (least range) d && leb d (most range)) d n e in
    let q = and_parts (leb (least range) d) (leb d (most range)) p.0 in
    let low = leb-true (least range) d q.0 in
    let top = leb-true d (most range) q.1 in
    let f : d ≡ n = p.1 in
    ((omega arith, omega arith), ap decimal (sym f) ∙ decimal_digit d (omega arith))
longer_keeps range (Some m) d n i w e =
    let p = some_of (ltb 0 m && (leb m (most range) && leb (m * 10 + d) (most range))) (m * 10 + d) n e in
    let q = and_parts (ltb 0 m) (leb m (most range) && leb (m * 10 + d) (most range)) p.0 in
    let r = and_parts (leb m (most range)) (leb (m * 10 + d) (most range)) q.1 in
    let pos = ltb-true 0 m q.0 in
    let top = leb-true (m * 10 + d) (most range) r.1 in
    let f : m * 10 + d ≡ n = p.1 in
    ((omega arith, omega arith), ap decimal (sym f) ∙ decimal_extend m d pos (omega arith) (omega (arith, w.1, most_fits range)))

-- no number of the range goes on so
longer_fails : (range : Range) (o : Option ℕ) (d x : ℕ) (ds : List ℕ) → d ≤ 9 → Within range o → longer o d (least range) (most range) ≡ None → Within range (Some x) → decimal x ≡ optional o ++ ((48 + d) ∷ ds) → ⊥
longer_fails range None d x ds i w e v f = elim (and_cases (leb (least range) d) (leb d (most range)) (none_of (leb (least range) d && leb d (most range)) d e)) [ inl p ↦ low (leb-false (least range) d p) | inr p ↦ high (leb-false d (most range) p) ]
  where
    high : most range < d → ⊥
    high p = let q = front_le x d ds (omega (arith, v.1, most_fits range)) (omega arith) (f ∙ ap (λ c. c ++ ds) (sym (decimal_digit d (omega arith)))) in omega (arith, v.1)

    low : d < least range → ⊥
    low p =
        let z : d ≡ 0 = omega (arith, least_low range) in
        let y = zero_alone x ds (omega (arith, v.1, most_fits range)) (f ∙ ap (λ c. (48 + c) ∷ ds) z) in
        omega (arith, v.0)
longer_fails range (Some m) d x ds i w e v f = elim (cases_lt 0 m) [ inl p ↦ more p | inr p ↦ zero (omega arith) ]
  where
    more : 0 < m → ⊥
    more p =
        let g : decimal x ≡ decimal (m * 10 + d) ++ ds = f ∙ sym (append_assoc (decimal m) ((48 + d) ∷ []) ds) ∙ ap (λ c. c ++ ds) (sym (decimal_extend m d p (omega arith) (omega (arith, w.1, most_fits range)))) in
        let low = front_le x (m * 10 + d) ds (omega (arith, v.1, most_fits range)) (omega (arith, w.1, most_fits range)) g in
        both_ways (ltb 0 m && (leb m (most range) && leb (m * 10 + d) (most range))) (none_of (ltb 0 m && (leb m (most range) && leb (m * 10 + d) (most range))) (m * 10 + d) e) (and_from (ltb 0 m) (leb m (most range) && leb (m * 10 + d) (most range)) (lt-ltb 0 m p) (and_from (leb m (most range)) (leb (m * 10 + d) (most range)) (le-leb m (most range) w.1) (le-leb (m * 10 + d) (most range) (omega (arith, v.1, most_fits range)))))

    zero : m ≡ 0 → ⊥
    zero z =
        let g : decimal x ≡ 48 ∷ ((48 + d) ∷ ds) = f ∙ ap (λ c. decimal c ++ ((48 + d) ∷ ds)) z ∙ ap (λ c. c ++ ((48 + d) ∷ ds)) (decimal_digit 0 (omega arith)) in
        let y = zero_alone x ((48 + d) ∷ ds) (omega (arith, v.1, most_fits range)) g in
        let l : 1 ≡ length (48 ∷ ((48 + d) ∷ ds)) = ap length (sym (decimal_digit 0 (omega arith)) ∙ ap decimal (sym y) ∙ g) in
        omega arith

module _ (range : Range) (given : List ℕ) (at i : ℕ) (o : Option ℕ) (w : Within range o) (so_far : drop at given ≡ optional o ++ drop i given) where
  pub run_whole : i < length given → is_ascii_digit (get_or given i 0) ≡ false → Takes (Runs range) (drop at given) (whole (record { value = o; mark = get_or given i 0 }) (drop (i + 1) given))
  run_whole l d = (optional o ++ (get_or given i 0 ∷ []), (w, d, refl), append_assoc (optional o) (get_or given i 0 ∷ []) (drop (i + 1) given) ∙ ap (λ x. optional o ++ x) (sym (drop_more given i 0 l)) ∙ sym so_far)

  pub run_more : (n : ℕ) → i < length given → 48 ≤ get_or given i 0 → get_or given i 0 ≤ 57 → longer o (get_or given i 0 - 48) (least range) (most range) ≡ Some n → Within range (Some n) × (drop at given ≡ optional (Some n) ++ drop (i + 1) given)
  run_more n l a b e =
      let p = longer_keeps range o (get_or given i 0 - 48) n (omega arith) w e in
      let back : 48 + (get_or given i 0 - 48) ≡ get_or given i 0 = omega arith in
      let q : optional (Some n) ++ drop (i + 1) given ≡ optional o ++ (get_or given i 0 ∷ drop (i + 1) given) = ap (λ x. x ++ drop (i + 1) given) (p.1 ∙ ap (λ x. optional o ++ (x ∷ [])) back) ∙ append_assoc (optional o) (get_or given i 0 ∷ []) (drop (i + 1) given) in
      (p.0, so_far ∙ ap (λ x. optional o ++ x) (drop_more given i 0 l) ∙ sym q)

  pub run_part : length given ≤ i → Takes (Runs range) (drop at given) part
  run_part l =
      let e : drop at given ≡ optional o = so_far ∙ ap (λ x. optional o ++ x) (drop_all i given l) ∙ append-nil (optional o) in
      let r : Run = record { value = o; mark = 59 } in
      (r, 59 ∷ [], omega arith, (w, refl, ap (λ x. x ++ (59 ∷ [])) e))

  pub run_nothing : i < length given → 48 ≤ get_or given i 0 → get_or given i 0 ≤ 57 → is_ascii_digit (get_or given i 0) ≡ true → longer o (get_or given i 0 - 48) (least range) (most range) ≡ None → Takes (Runs range) (drop at given) nothing
  run_nothing l a b d e r s t u p f =
      let q : optional r.value ++ (r.mark ∷ t) ≡ optional o ++ (get_or given i 0 ∷ (drop (i + 1) given ++ u)) = sym (append_assoc (optional r.value) (r.mark ∷ []) t) ∙ ap (λ x. x ++ t) (sym p.2) ∙ f ∙ ap (λ x. x ++ u) (so_far ∙ ap (λ x. optional o ++ x) (drop_more given i 0 l)) ∙ append_assoc (optional o) (get_or given i 0 ∷ drop (i + 1) given) u in
      let g = digits_go_on (optional r.value) (optional o) (r.mark ∷ t) (drop (i + 1) given ++ u) (get_or given i 0) (optional_digits range o w) d p.1 q in
      go r.value p.0 g.0 g.1
    where
      go : (v : Option ℕ) → Within range v → (ds : List ℕ) → optional v ≡ optional o ++ (get_or given i 0 ∷ ds) → ⊥
      go None v ds g = let k = simp length-append at (ap length g) in omega arith
      go (Some x) v ds g =
          let back : get_or given i 0 ≡ 48 + (get_or given i 0 - 48) = omega arith in
          longer_fails range o (get_or given i 0 - 48) x ds (omega arith) w e v (g ∙ ap (λ c. optional o ++ (c ∷ ds)) back)
