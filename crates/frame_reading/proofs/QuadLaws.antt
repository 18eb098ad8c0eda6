-- Numbers of four bytes and their fronts.
use Rattle.std.proofs.Common.{◌≡◌, ℕ, ◌+◌, ◌*◌, ◌/◌, ◌%◌, ◌^◌, ◌<◌, ◌≤◌, true, false, cond, not, ◌&&◌, eqb, ltb, leb, ◌⊎◌, List, [], ◌∷◌, ◌++◌, length, get_or, drop, sym, refl, ap, ◌∙◌, inl, inr, arith}
use lib.Utf8.{scalar}
use Rattle.std.proofs.lemmas.List.{drop_more}
use Rattle.std.proofs.lemmas.Bool.{leb-true, le-leb, lt-ltb, le-ltb, eqb-true, ne_eqb, or_cases, or_left, and_parts, and_from, not_from_false, both_ways}
use Rattle.dialect.specs.KittyLaws.{scalar_coded}
use Rattle.frames.specs.Framing.{le32}
use Rattle.frames.specs.FrameLaws.{le32_same}
use Rattle.pieces.specs.Languages.{Takes, whole, part, nothing}
use Rattle.frame_reading.specs.declared.found.Rule.{Rule}
use Rattle.frame_reading.specs.declared.found.Rule.TheVariants.{Code, Optional, Scalar, Clear}
use Rattle.frame_reading.specs.Quads.{ok, Quads}

pub ok_fits : (r : Rule) (n : ℕ) → ok r n ≡ true → (n ≤ 1114111) ⊎ (n ≡ 4294967295)
ok_fits Code n e = inl (leb-true n 1114111 e)
ok_fits Optional n e = elim (or_cases (leb n 1114111) (eqb n 4294967295) e) [ inl h ↦ inl (leb-true n 1114111 h) | inr h ↦ inr (eqb-true n 4294967295 h) ]
ok_fits Scalar n e = inl (scalar_coded n e)
ok_fits Clear n e = inl (scalar_coded n (and_parts (scalar n) (not (eqb n 27)) e).0)

scalar_middle : (n : ℕ) → 65536 ≤ n → n < 131072 → scalar n ≡ true
scalar_middle n h k = ap (λ x. cond x true (leb 57344 n && ltb n 1114112)) (le-ltb n 55296 (omega arith)) ∙ and_from (leb 57344 n) (ltb n 1114112) (le-leb 57344 n (omega arith)) (lt-ltb n 1114112 (omega arith))

-- any two bytes begin a number that is allowed
pub ok_middle : (r : Rule) (n : ℕ) → 65536 ≤ n → n < 131072 → ok r n ≡ true
ok_middle Code n h k = le-leb n 1114111 (omega arith)
ok_middle Optional n h k = or_left (leb n 1114111) (eqb n 4294967295) (le-leb n 1114111 (omega arith))
ok_middle Scalar n h k = scalar_middle n h k
ok_middle Clear n h k = and_from (scalar n) (not (eqb n 27)) (scalar_middle n h k) (not_from_false (eqb n 27) (ne_eqb n 27 (λ e. omega arith)))

-- the four bytes of a number that is made of them
le32_made : (a b c d : ℕ) → a < 256 → b < 256 → c < 256 → d < 256 → a ∷ b ∷ c ∷ d ∷ [] ≡ le32 (a + b * 256 + c * 65536 + d * 16777216)
le32_made a b c d h i j k =
    let x : a ≡ (a + b * 256 + c * 65536 + d * 16777216) % 256 = omega arith in
    let y1 : b + c * 256 + d * 65536 ≡ (a + b * 256 + c * 65536 + d * 16777216) / 256 = omega arith in
    let y2 : b ≡ (b + c * 256 + d * 65536) % 256 = omega arith in
    let y : b ≡ (a + b * 256 + c * 65536 + d * 16777216) / 256 % 256 = y2 ∙ ap (λ t. t % 256) y1 in
    let z1 : c + d * 256 ≡ (a + b * 256 + c * 65536 + d * 16777216) / 65536 = omega arith in
    let z2 : c ≡ (c + d * 256) % 256 = omega arith in
    let z : c ≡ (a + b * 256 + c * 65536 + d * 16777216) / 65536 % 256 = z2 ∙ ap (λ t. t % 256) z1 in
    let w1 : d ≡ (a + b * 256 + c * 65536 + d * 16777216) / 16777216 = omega arith in
    let w2 : d ≡ d % 256 = omega arith in
    let w : d ≡ (a + b * 256 + c * 65536 + d * 16777216) / 16777216 % 256 = w2 ∙ ap (λ t. t % 256) w1 in
    cc (x, y, z, w)

small : (r : Rule) (n : ℕ) → ok r n ≡ true → n < 2 ^ 32
small r n p = elim (ok_fits r n p) [ inl o ↦ omega arith | inr o ↦ omega arith ]

module _ (r : Rule) where
  pub quad_short : (g : List ℕ) → length g < 3 → ((i : ℕ) → get_or g i 0 < 256) → Takes (Quads r) g part
  quad_short [] l f = (0 + 0 * 256 + 1 * 65536 + 0 * 16777216, 0 ∷ 0 ∷ 1 ∷ 0 ∷ [], omega arith, (ok_middle r (0 + 0 * 256 + 1 * 65536 + 0 * 16777216) (omega arith) (omega arith), le32_made 0 0 1 0 (omega arith) (omega arith) (omega arith) (omega arith)))
  quad_short (a ∷ []) l f =
      let h : a < 256 = f 0 in
      (a + 0 * 256 + 1 * 65536 + 0 * 16777216, 0 ∷ 1 ∷ 0 ∷ [], omega arith, (ok_middle r (a + 0 * 256 + 1 * 65536 + 0 * 16777216) (omega arith) (omega arith), le32_made a 0 1 0 h (omega arith) (omega arith) (omega arith)))
  quad_short (a ∷ b ∷ []) l f =
      let h : a < 256 = f 0 in
      let k : b < 256 = f 1 in
      (a + b * 256 + 1 * 65536 + 0 * 16777216, 1 ∷ 0 ∷ [], omega arith, (ok_middle r (a + b * 256 + 1 * 65536 + 0 * 16777216) (omega arith) (omega arith), le32_made a b 1 0 h k (omega arith) (omega arith)))
  quad_short (a ∷ b ∷ c ∷ g) l f = absurd (omega arith)

  module _ (a b c : ℕ) (h : a < 256) (i : b < 256) (j : c < 256) where
    pub quad_3 : (d : ℕ) → d < 256 → ok r (a + b * 256 + c * 65536 + d * 16777216) ≡ true → Takes (Quads r) (a ∷ b ∷ c ∷ []) part
    quad_3 d k e = (a + b * 256 + c * 65536 + d * 16777216, d ∷ [], omega arith, (e, le32_made a b c d h i j k))

    pub quad_none_3 : ok r (a + b * 256 + c * 65536) ≡ false → ok r (a + b * 256 + c * 65536 + 4278190080) ≡ false → Takes (Quads r) (a ∷ b ∷ c ∷ []) nothing
    quad_none_3 e f n s t u p q =
        let x : n % 256 ∷ n / 256 % 256 ∷ n / 65536 % 256 ∷ n / 16777216 % 256 ∷ t ≡ a ∷ b ∷ c ∷ u = ap (λ z. z ++ t) (sym p.1) ∙ q in
        let y : n % 256 ≡ a = cc (x) in
        let z : n / 256 % 256 ≡ b = cc (x) in
        let w : n / 65536 % 256 ≡ c = cc (x) in
        elim (ok_fits r n p.0) [
          | inl o ↦ (let v : n ≡ a + b * 256 + c * 65536 = omega (arith, y, z, w, o) in both_ways (ok r (a + b * 256 + c * 65536)) e (ap (ok r) (sym v) ∙ p.0))
          | inr o ↦ (let v : n ≡ a + b * 256 + c * 65536 + 4278190080 = omega (arith, y, z, w, o) in both_ways (ok r (a + b * 256 + c * 65536 + 4278190080)) f (ap (ok r) (sym v) ∙ p.0))
        ]

    pub quad_whole : (d : ℕ) (g : List ℕ) → d < 256 → ok r (a + b * 256 + c * 65536 + d * 16777216) ≡ true → Takes (Quads r) (a ∷ b ∷ c ∷ d ∷ g) (whole (a + b * 256 + c * 65536 + d * 16777216) g)
    quad_whole d g k e = (a ∷ b ∷ c ∷ d ∷ [], (e, le32_made a b c d h i j k), refl)

    pub quad_none_4 : (d : ℕ) (g : List ℕ) → d < 256 → ok r (a + b * 256 + c * 65536 + d * 16777216) ≡ false → Takes (Quads r) (a ∷ b ∷ c ∷ d ∷ g) nothing
    quad_none_4 d g k e n s t u p q =
        let is = (le32_same n (a + b * 256 + c * 65536 + d * 16777216) t (g ++ u) (small r n p.0) (omega arith) (ap (λ z. z ++ t) (sym p.1) ∙ q ∙ ap (λ z. z ++ (g ++ u)) (le32_made a b c d h i j k))).0 in
        both_ways (ok r (a + b * 256 + c * 65536 + d * 16777216)) e (ap (ok r) (sym is) ∙ p.0)

-- four bytes tell their number, whatever follows
pub quads_same : (r : Rule) (m n : ℕ) (p q t u : List ℕ) → Quads r p m → Quads r q n → p ++ t ≡ q ++ u → (m ≡ n) × (t ≡ u)
quads_same r m n p q t u x y e = le32_same m n t u (small r m x.0) (small r n y.0) (ap (λ z. z ++ t) (sym x.1) ∙ e ∙ ap (λ z. z ++ u) y.1)

-- bytes from a place on
drop_at : (g : List ℕ) (i j : ℕ) → j ≡ i + 1 → i < length g → drop i g ≡ get_or g i 0 ∷ drop j g
drop_at g i j e l = drop_more g i 0 l ∙ ap (λ k. get_or g i 0 ∷ drop k g) (sym e)

pub view_3 : (g : List ℕ) (at : ℕ) → at + 3 ≤ length g → drop at g ≡ get_or g at 0 ∷ get_or g (at + 1) 0 ∷ get_or g (at + 2) 0 ∷ drop (at + 3) g
view_3 g at l = drop_at g at (at + 1) refl (omega arith) ∙ ap (λ x. get_or g at 0 ∷ x) (drop_at g (at + 1) (at + 2) (omega arith) (omega arith)) ∙ ap (λ x. get_or g at 0 ∷ get_or g (at + 1) 0 ∷ x) (drop_at g (at + 2) (at + 3) (omega arith) (omega arith))

pub view_4 : (g : List ℕ) (at : ℕ) → at + 4 ≤ length g → drop at g ≡ get_or g at 0 ∷ get_or g (at + 1) 0 ∷ get_or g (at + 2) 0 ∷ get_or g (at + 3) 0 ∷ drop (at + 4) g
view_4 g at l = view_3 g at (omega arith) ∙ ap (λ x. get_or g at 0 ∷ get_or g (at + 1) 0 ∷ get_or g (at + 2) 0 ∷ x) (drop_at g (at + 3) (at + 4) (omega arith) (omega arith))
