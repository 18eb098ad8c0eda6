-- The parts of a frame, one after another.
use Rattle.std.proofs.Common.{◌≡◌, ℕ, zero, suc, ◌-◌, ◌<◌, ◌≤◌, true, eqb, leb, List, [], ◌∷◌, ◌++◌, length, replicate, Some, None, Option, sym, refl, ap, ◌∙◌, subst, inl, inr, arith, length-append, MatchOption}
use lib.ListN.{length-replicate}
use lib.Utf8.{scalar, scalars}
use Rattle.std.specs.List.{flat_map}
use Rattle.std.proofs.lemmas.List.{append-nil, append_assoc}
use Rattle.std.proofs.lemmas.Bool.{and_parts, and_from, or_cases, leb-true, le-leb, eqb-true, or_left}
use Rattle.report.specs.declared.ending.Direction.{Direction}
use Rattle.report.specs.declared.ending.Direction.TheVariants.{Press}
use Rattle.report.specs.declared.ending.Last.{Last}
use Rattle.report.specs.declared.ending.Last.TheVariants.{U, Tilde, Up, Down, Right, Left, Begin, End, Home}
use Rattle.report.specs.Made.{parted}
use Rattle.report.specs.Meanings.{Meaning, Fields, Sound, Coded, Suits, Bare, text, answer}
use Rattle.report.specs.Endings.{direction_number, last_byte}
use Rattle.report.specs.EndingLaws.{direction_same, direction_digit, last_same, last_byte_lem}
use Rattle.frames.specs.Framing.{le32, or_none}
use Rattle.frames.specs.FrameLaws.{or_none-same}
use Rattle.pieces.specs.Octets.{Octets}
use Rattle.pieces.proofs.Chains.{Chain, opened}
use Rattle.pieces.proofs.OctetLaws.{octet_same, octet_starts}
use Rattle.sequences.specs.Leads.{Lead}
use Rattle.sequences.specs.Parts.{Started, filled, headed}
use Rattle.frame_reading.specs.declared.found.Rule.TheVariants.{Code, Optional, Scalar, Clear}
use Rattle.frame_reading.specs.Bodies.{AtText, AtFlags, Good, from_count, from_last, from_direction, from_sum, from_base, from_shifted, AtNumber, AtShifted, AtBase, AtSum, AtDirection, Leads, AtLast, AtCount, AtCodes, after_shifted, after_base, after_direction, after_last, after_count}
use Rattle.frame_reading.specs.Quads.{ok, Quads}
use Rattle.frame_reading.proofs.QuadLaws.{quads_same}

-- a text
abbrev pub after_text : ℕ → List ℕ → Meaning → Type 0
after_text c s m = (m ≡ text c) × (s ≡ [])

pub text_chain : Chain (Quads Clear) AtText after_text
text_chain = record {
  same = quads_same Clear;
  form = λ m s p. (p.0, s, [], p.2, sym (append-nil s), (p.1, refl));
  join = λ m c p r x y. (c, y.0, subst (λ z. Quads Clear z c) (sym (ap (λ z. p ++ z) y.1 ∙ append-nil p)) x);
  starts = opened (Quads Clear) AtText (λ c p x. (text c, [], (c, refl, subst (λ z. Quads Clear z c) (sym (append-nil p)) x)));
}

-- an answer
abbrev pub after_flags : ℕ → List ℕ → Meaning → Type 0
after_flags b s m = (b ≤ 31) × (m ≡ answer b) × (s ≡ [])

pub flags_chain : Chain Octets AtFlags after_flags
flags_chain = record {
  same = octet_same;
  form = λ m s p. (p.0, p.0 ∷ [], [], (omega (arith, p.2), refl), p.3, (p.2, p.1, refl));
  join = λ m b p r x y. (b, y.1, y.0, ap (λ z. z ++ r) x.1 ∙ ap (λ z. b ∷ z) y.2);
  starts = octet_starts AtFlags (answer 0) (0 ∷ []) (0, refl, omega arith, refl) (omega arith);
}

-- characters that can stand for any
scalars_zeros : (k : ℕ) → scalars (replicate k 0) ≡ true
scalars_zeros zero = refl
scalars_zeros (suc k) = scalars_zeros k

unfoldable pub zeros : Lead → ℕ → Fields
zeros h k = filled h U (replicate k 0)

pub zeros_good : (h : Lead) (k : ℕ) → Started h → k ≤ 32 → Good k (zeros h k)
unfolding zeros
zeros_good h k a l = (record { number_fits = a.0; shifted_fits = a.1; base_fits = a.2; sum_fits = a.3; characters_are = scalars_zeros k; few = simp length-replicate (omega arith); suits = tt }, length-replicate k 0)

-- a code, or its absence
pub optional_of : (v : ℕ) → ok Optional v ≡ true → (o : Option ℕ) × Coded o × (or_none o ≡ v)
optional_of v e = elim (or_cases (leb v 1114111) (eqb v 4294967295) e) [ inl h ↦ (Some v, leb-true v 1114111 h, refl) | inr h ↦ (None, tt, sym (eqb-true v 4294967295 h)) ]

ok_optional : (o : Option ℕ) → Coded o → ok Optional (or_none o) ≡ true
ok_optional None c = refl
ok_optional (Some n) c = or_left (leb n 1114111) (eqb n 4294967295) (le-leb n 1114111 c)

module _ (k : ℕ) (l : k ≤ 32) where
  -- the number
  number_opens : (v : ℕ) (p : List ℕ) → Quads Code p v → (m : Fields) × (r : List ℕ) × AtNumber k (p ++ r) m
  unfolding zeros
  number_opens v p x =
      let h = headed v None None 0 Press in
      (zeros h k, from_shifted (zeros h k), (zeros_good h k (leb-true v 1114111 x.0, tt, tt, omega arith) l, ap (λ z. z ++ from_shifted (zeros h k)) x.1))

  pub number_chain : Chain (Quads Code) (AtNumber k) (λ v. AtShifted k (headed v None None 0 Press))
  number_chain = record {
    same = quads_same Code;
    form = λ f s p. (f.number, le32 f.number, from_shifted f, (le-leb f.number 1114111 p.0.0.number_fits, refl), p.1, (p.0, refl, refl));
    join = λ f v p r x q. (q.0, ap (λ z. z ++ r) x.1 ∙ cc (q.1, q.2));
    starts = opened (Quads Code) (AtNumber k) number_opens;
  }

  module _ (h : Lead) (a : Started h) where
    -- the shifted code
    shifted_opens : (v : ℕ) (p : List ℕ) → Quads Optional p v → (m : Fields) × (r : List ℕ) × AtShifted k h (p ++ r) m
    unfolding zeros
    shifted_opens v p x =
        let o = optional_of v x.0 in
        let g = headed h.number o.0 h.base h.sum h.direction in
        (zeros g k, from_base (zeros g k), (zeros_good g k (a.0, o.1, a.2, a.3) l, refl, ap (λ z. z ++ from_base (zeros g k)) (x.1 ∙ ap le32 (sym o.2))))

    pub shifted_chain : Chain (Quads Optional) (AtShifted k h) (after_shifted k h)
    shifted_chain = record {
      same = quads_same Optional;
      form = λ f s p. (or_none f.shifted, le32 (or_none f.shifted), from_base f, (ok_optional f.shifted p.0.0.shifted_fits, refl), p.2, (p.0, p.1, refl, refl));
      join = λ f v p r x q. (q.0, q.1, ap (λ z. z ++ r) x.1 ∙ cc (q.2, q.3));
      starts = opened (Quads Optional) (AtShifted k h) shifted_opens;
    }

    -- the base code
    base_opens : (v : ℕ) (p : List ℕ) → Quads Optional p v → (m : Fields) × (r : List ℕ) × AtBase k h (p ++ r) m
    unfolding zeros
    base_opens v p x =
        let o = optional_of v x.0 in
        let g = headed h.number h.shifted o.0 h.sum h.direction in
        (zeros g k, from_sum (zeros g k), (zeros_good g k (a.0, a.1, o.1, a.3) l, refl, refl, ap (λ z. z ++ from_sum (zeros g k)) (x.1 ∙ ap le32 (sym o.2))))

    pub base_chain : Chain (Quads Optional) (AtBase k h) (after_base k h)
    base_chain = record {
      same = quads_same Optional;
      form = λ f s p. (or_none f.base, le32 (or_none f.base), from_sum f, (ok_optional f.base p.0.0.base_fits, refl), p.3, (p.0, p.1, p.2, refl, refl));
      join = λ f v p r x q. (q.0, q.1, q.2, ap (λ z. z ++ r) x.1 ∙ cc (q.3, q.4));
      starts = opened (Quads Optional) (AtBase k h) base_opens;
    }

    -- the sum
    pub sum_chain : Chain Octets (AtSum k h) (λ b. AtDirection k (headed h.number h.shifted h.base b h.direction))
    unfolding zeros
    sum_chain = record {
      same = octet_same;
      form = λ f s p. (f.sum, f.sum ∷ [], from_direction f, (p.0.0.sum_fits, refl), p.4, (p.0, p.1, p.2, p.3, refl, refl));
      join = λ f b p r x q. (q.0, q.1, q.2, q.3, ap (λ z. z ++ r) x.1 ∙ cc (q.4, q.5));
      starts = octet_starts (AtSum k h) (zeros h k) (from_sum (zeros h k)) (zeros_good h k a l, refl, refl, refl, refl) (omega arith);
    }

    -- the direction
    pub direction_chain : Chain Octets (AtDirection k h) (after_direction k h)
    unfolding zeros
    direction_chain = record {
      same = octet_same;
      form = λ f s p. (direction_number f.direction, direction_number f.direction ∷ [], from_last f, (omega (arith, (direction_digit f.direction).1), refl), p.5, (p.0, p.1, p.2, p.3, p.4, refl, refl));
      join = λ f b p r x q. (q.0, q.1, q.2, q.3, q.4, ap (λ z. z ++ r) x.1 ∙ cc (q.5, q.6));
      starts = octet_starts (AtDirection k h) (zeros h k) (from_direction (zeros h k)) (zeros_good h k a l, refl, refl, refl, refl, refl) (omega arith);
    }

    -- the final byte
    pub last_chain : Chain Octets (AtLast k h) (after_last k h)
    unfolding zeros
    last_chain = record {
      same = octet_same;
      form = λ f s p. (last_byte f.last, last_byte f.last ∷ [], from_count f, (last_byte_lem f.last, refl), p.2, (p.0, p.1, refl, refl));
      join = λ f b p r x q. (q.0, q.1, ap (λ z. z ++ r) x.1 ∙ cc (q.2, q.3));
      starts = octet_starts (AtLast k h) (zeros h k) (from_last (zeros h k)) (zeros_good h k a l, (refl, refl, refl, refl, refl), refl) (omega arith);
    }

-- what code follows the value of four bytes
pub shifted_base : (k : ℕ) (h : Lead) (v : ℕ) (o : Option ℕ) → Coded o → or_none o ≡ v → (f : Fields) (s : List ℕ) → AtBase k (headed h.number o h.base h.sum h.direction) s f → after_shifted k h v s f
shifted_base k h v o c e f s q = (q.0, q.1, ap or_none q.2 ∙ e, q.3)

pub base_shifted : (k : ℕ) (h : Lead) (v : ℕ) (o : Option ℕ) → Coded o → or_none o ≡ v → (f : Fields) (s : List ℕ) → after_shifted k h v s f → AtBase k (headed h.number o h.base h.sum h.direction) s f
base_shifted k h v o c e f s q = (q.0, q.1, or_none-same f.shifted o q.0.0.shifted_fits c (q.2 ∙ sym e), q.3)

pub base_sum : (k : ℕ) (h : Lead) (v : ℕ) (o : Option ℕ) → Coded o → or_none o ≡ v → (f : Fields) (s : List ℕ) → AtSum k (headed h.number h.shifted o h.sum h.direction) s f → after_base k h v s f
base_sum k h v o c e f s q = (q.0, q.1, q.2, ap or_none q.3 ∙ e, q.4)

pub sum_base : (k : ℕ) (h : Lead) (v : ℕ) (o : Option ℕ) → Coded o → or_none o ≡ v → (f : Fields) (s : List ℕ) → after_base k h v s f → AtSum k (headed h.number h.shifted o h.sum h.direction) s f
sum_base k h v o c e f s q = (q.0, q.1, q.2, or_none-same f.base o q.0.0.base_fits c (q.3 ∙ sym e), q.4)

-- a code that four bytes were allowed to be
pub coded_of : (v : ℕ) (o : Option ℕ) → ok Optional v ≡ true → MatchOption o (v ≡ 4294967295) (λ n. (n ≡ v) × (n ≡ 4294967295 → ⊥)) → Coded o × (or_none o ≡ v)
coded_of v None e i = (tt, sym i)
coded_of v (Some n) e i = elim (or_cases (leb v 1114111) (eqb v 4294967295) e) [
  | inl h ↦ (let x = leb-true v 1114111 h in (omega (arith, i.0), i.0))
  | inr h ↦ absurd (i.1 (i.0 ∙ eqb-true v 4294967295 h))
]

-- the direction that a byte is
pub direction_last : (k : ℕ) (h : Lead) (b : ℕ) (d : Direction) → direction_number d ≡ b → (f : Fields) (s : List ℕ) → AtLast k (headed h.number h.shifted h.base h.sum d) s f → after_direction k h b s f
direction_last k h b d e f s q = (q.0, q.1.0, q.1.1, q.1.2, q.1.3, ap direction_number q.1.4 ∙ e, q.2)

pub last_direction : (k : ℕ) (h : Lead) (b : ℕ) (d : Direction) → direction_number d ≡ b → (f : Fields) (s : List ℕ) → after_direction k h b s f → AtLast k (headed h.number h.shifted h.base h.sum d) s f
last_direction k h b d e f s q = (q.0, (q.1, q.2, q.3, q.4, direction_same f.direction d (q.5 ∙ sym e)), q.6)

-- the end that a byte is
pub count_last : (k : ℕ) (h : Lead) (b : ℕ) (l : Last) → last_byte l ≡ b → (f : Fields) (s : List ℕ) → AtCount k h l s f → after_last k h b s f
count_last k h b l e f s q = (q.0, q.1, ap last_byte q.2 ∙ e, q.3)

pub last_count : (k : ℕ) (h : Lead) (b : ℕ) (l : Last) → last_byte l ≡ b → (f : Fields) (s : List ℕ) → after_last k h b s f → AtCount k h l s f
last_count k h b l e f s q = (q.0, q.1, last_same f.last l (q.2 ∙ sym e), q.3)

none_left : (k : ℕ) (xs : List ℕ) → replicate {A = ℕ} k 0 ≡ [] → length xs ≡ k → xs ≡ []
none_left k [] e l = refl
none_left k (x ∷ xs) e l =
    let z : k ≡ 0 = sym (length-replicate k 0) ∙ ap length e in
    absurd (omega (arith, l, z))

-- where k characters can follow, any k can
module _ (h : Lead) (k : ℕ) (xs : List ℕ) (long : length xs ≡ k) where
  bare_refill : (l : Last) → Bare (filled h l (replicate k 0)) → Bare (filled h l xs)
  bare_refill l p = (p.0, p.1, none_left k xs p.2 long)

  suits_refill : (l : Last) → Suits l (filled h l (replicate k 0)) → Suits l (filled h l xs)
  suits_refill U p = tt
  suits_refill Tilde p = bare_refill Tilde p
  suits_refill Up p = (bare_refill Up p.0, p.1)
  suits_refill Down p = (bare_refill Down p.0, p.1)
  suits_refill Right p = (bare_refill Right p.0, p.1)
  suits_refill Left p = (bare_refill Left p.0, p.1)
  suits_refill Begin p = (bare_refill Begin p.0, p.1)
  suits_refill End p = (bare_refill End p.0, p.1)
  suits_refill Home p = (bare_refill Home p.0, p.1)

  pub refill : (l : Last) → Sound (filled h l (replicate k 0)) → scalars xs ≡ true → Good k (filled h l xs)
  refill l p v =
      let few : k ≤ 32 = subst (λ n. n ≤ 32) (length-replicate k 0) p.few in
      (record { number_fits = p.number_fits; shifted_fits = p.shifted_fits; base_fits = p.base_fits; sum_fits = p.sum_fits; characters_are = v; few = omega (arith, long, few); suits = suits_refill l p.suits }, long)

scalars_parts : (cs ds : List ℕ) → scalars (cs ++ ds) ≡ true → scalars ds ≡ true
scalars_parts [] ds v = v
scalars_parts (c ∷ cs) ds v = scalars_parts cs ds (and_parts (scalar c) (scalars (cs ++ ds)) v).1

scalars_both : (cs ds : List ℕ) → scalars cs ≡ true → scalars ds ≡ true → scalars (cs ++ ds) ≡ true
scalars_both [] ds v w = w
scalars_both (c ∷ cs) ds v w = let p = and_parts (scalar c) (scalars cs) v in and_from (scalar c) (scalars (cs ++ ds)) p.0 (scalars_both cs ds p.1 w)

module _ (k : ℕ) (h : Lead) (l : Last) (ready : Sound (filled h l (replicate k 0))) where
  few : k ≤ 32
  few = subst (λ n. n ≤ 32) (length-replicate k 0) ready.few

  -- how many characters
  count_message : AtCount k h l (from_count (filled h l (replicate k 0))) (filled h l (replicate k 0))
  count_message = (refill h k (replicate k 0) (length-replicate k 0) l ready (scalars_zeros k), (refl, refl, refl, refl, refl), refl, refl)

  pub count_chain : Chain Octets (AtCount k h l) (after_count k h l)
  count_chain = record {
    same = octet_same;
    form = λ f s p. (length f.text, length f.text ∷ [], flat_map le32 f.text, (omega (arith, p.0.0.few), refl), p.3, (p.0.1, (p.0, p.1, p.2, (f.text, refl, refl))));
    join = λ f b p r x q. (q.1.0, q.1.1, q.1.2, ap (λ z. z ++ r) x.1 ∙ cc (q.0, q.1.0.1, q.1.3.1, q.1.3.2));
    starts = octet_starts (AtCount k h l) (filled h l (replicate k 0)) (from_count (filled h l (replicate k 0))) count_message (omega arith);
  }

  -- the next character, after those of cs
  module _ (cs : List ℕ) (v : scalars cs ≡ true) (less : length cs < k) where
    codes_form : (f : Fields) (s : List ℕ) → AtCodes k h l cs s f → (c : ℕ) × (p : List ℕ) × (r : List ℕ) × Quads Scalar p c × (s ≡ p ++ r) × AtCodes k h l (cs ++ (c ∷ [])) r f
    codes_form f s q = go q.3.0 q.3.1 q.3.2
      where
        go : (ds : List ℕ) → f.text ≡ cs ++ ds → s ≡ flat_map le32 ds → (c : ℕ) × (p : List ℕ) × (r : List ℕ) × Quads Scalar p c × (s ≡ p ++ r) × AtCodes k h l (cs ++ (c ∷ [])) r f
        go [] e i =
            let n = simp length-append at (ap length e) in
            absurd (omega (arith, n, q.0.1, less))
        go (c ∷ ds) e i =
            let w = scalars_parts cs (c ∷ ds) (subst (λ x. scalars x ≡ true) e q.0.0.characters_are) in
            (c, le32 c, flat_map le32 ds, ((and_parts (scalar c) (scalars ds) w).0, refl), i, (q.0, q.1, q.2, (ds, e ∙ sym (append_assoc cs (c ∷ []) ds), refl)))

    codes_join : (f : Fields) (c : ℕ) (p r : List ℕ) → Quads Scalar p c → AtCodes k h l (cs ++ (c ∷ [])) r f → AtCodes k h l cs (p ++ r) f
    codes_join f c p r x q = (q.0, q.1, q.2, (c ∷ q.3.0, q.3.1 ∙ append_assoc cs (c ∷ []) q.3.0, cc (x.1, q.3.2)))

    codes_opens : (c : ℕ) (p : List ℕ) → Quads Scalar p c → (m : Fields) × (r : List ℕ) × AtCodes k h l cs (p ++ r) m
    codes_opens c p x =
        let zs : List ℕ = replicate (k - length cs - 1) 0 in
        let xs : List ℕ = cs ++ (c ∷ zs) in
        let n : length (cs ++ (c ∷ replicate (k - length cs - 1) 0)) ≡ k = simp (length-append, length-replicate) (omega arith) in
        let w = scalars_both cs (c ∷ zs) v (and_from (scalar c) (scalars zs) x.0 (scalars_zeros (k - length cs - 1))) in
        (filled h l xs, flat_map le32 zs, (refill h k xs n l ready w, (refl, refl, refl, refl, refl), refl, (c ∷ zs, refl, ap (λ z. z ++ flat_map le32 zs) x.1)))

    pub codes_chain : Chain (Quads Scalar) (AtCodes k h l cs) (λ c. AtCodes k h l (cs ++ (c ∷ [])))
    codes_chain = record { same = quads_same Scalar; form = codes_form; join = codes_join; starts = opened (Quads Scalar) (AtCodes k h l cs) codes_opens }

-- a sequence is told by its parts
pub leads_is : (h : Lead) (f : Fields) (l : Last) (cs : List ℕ) → Leads h f → f.last ≡ l → f.text ≡ cs → f ≡ filled h l cs
leads_is h f l cs p e g =
    let all : parted f.number f.shifted f.base f.sum f.direction f.last f.text ≡ parted h.number h.shifted h.base h.sum h.direction l cs = cc (p.0, p.1, p.2, p.3, p.4, e, g) in
    all

-- all characters are read
pub codes_all : (k : ℕ) (h : Lead) (l : Last) (cs : List ℕ) → length cs ≡ k → (f : Fields) (s : List ℕ) → AtCodes k h l cs s f → (f ≡ filled h l cs) × (s ≡ [])
codes_all k h l cs n f s q = go q.3.0 q.3.1 q.3.2
  where
    go : (ds : List ℕ) → f.text ≡ cs ++ ds → s ≡ flat_map le32 ds → (f ≡ filled h l cs) × (s ≡ [])
    go [] e i = (leads_is h f l cs q.1 q.2 (e ∙ append-nil cs), i)
    go (d ∷ ds) e i =
        let m = simp length-append at (ap length e) in
        absurd (omega (arith, m, q.0.1, n))
