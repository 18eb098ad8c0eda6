-- Where no clear report's bytes begin another's, the bytes of many tell them all.
use Rattle.std.proofs.Common.{◌≡◌, ℕ, ◌≤◌, ◌⊎◌, List, [], ◌∷◌, ◌++◌, length, sym, refl, ap, ◌∙◌, inl, inr, ⊎_elim, arith, length-append}
use Rattle.std.specs.List.{flat_map}
use Rattle.std.proofs.lemmas.List.{append_cancel_left}
use Rattle.report.specs.Meanings.{Meaning, Valid, Clear}
use Rattle.dialect.specs.Streams.{Tells}

-- of two fronts of one list, one begins the other
pub fronts : (x y t u : List ℕ) → x ++ t ≡ y ++ u → ((v : List ℕ) × (x ++ v ≡ y)) ⊎ ((v : List ℕ) × (y ++ v ≡ x))
fronts [] y t u e = inl (y, refl)
fronts (a ∷ x) [] t u e = inr (a ∷ x, refl)
fronts (a ∷ x) (b ∷ y) t u e =
    let h : a ≡ b = cc in
    let r : x ++ t ≡ y ++ u = cc in
    ⊎_elim (λ p. inl (p.0, cc (h, p.1))) (λ p. inr (p.0, cc (h, p.1))) (fronts x y t u r)

module _ (bytes : Meaning → List ℕ) (sized : (m : Meaning) → Valid m → (1 ≤ length (bytes m)) × (length (bytes m) ≤ 512)) (apart : (m n : Meaning) (t : List ℕ) → Valid m → Clear m → Valid n → Clear n → bytes m ++ t ≡ bytes n → m ≡ n) where
  -- whatever follows each
  pub same : (m n : Meaning) (t u : List ℕ) → Valid m → Clear m → Valid n → Clear n → bytes m ++ t ≡ bytes n ++ u → m ≡ n
  same m n t u v c w d e =
      ⊎_elim (λ p. apart m n p.0 v c w d p.1) (λ p. sym (apart n m p.0 w d v c p.1)) (fronts (bytes m) (bytes n) t u e)

  some_bytes : (m : Meaning) (ms : List Meaning) → Valid m → flat_map bytes (m ∷ ms) ≡ [] → ⊥
  some_bytes m ms v e = let l = simp length-append at (ap length e) in omega (arith, (sized m v).0)

  pub tells : Tells bytes
  tells [] [] a b e = refl
  tells [] (n ∷ ns) a b e = absurd (some_bytes n ns b.0 (sym e))
  tells (m ∷ ms) [] a b e = absurd (some_bytes m ms a.0 e)
  tells (m ∷ ms) (n ∷ ns) a b e =
      let h = same m n (flat_map bytes ms) (flat_map bytes ns) a.0 a.1 b.0 b.1 e in
      let r = append_cancel_left (bytes n) (flat_map bytes ms) (flat_map bytes ns) (ap (λ k. bytes k ++ flat_map bytes ms) (sym h) ∙ e) in
      cc (h, tells ms ns a.2 b.2 r)
