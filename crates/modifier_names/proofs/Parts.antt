-- What a call of `next` of `split('|')` says: the part before the first bar, and whether one came.
use Rattle.std.proofs.Common.{◌≡◌, ℕ, ◌+◌, ◌<◌, ◌≤◌, Bool, true, false, cond, List, [], ◌∷◌, ◌++◌, length, take, drop, take-append-drop, Some, None, Option, Result, MatchOption, sym, ap, arith, length-append}
use Rattle.std.specs.Str.Pattern.{FindsChar, IsSplitAtFirstMatch}
use Rattle.std.proofs.lemmas.Str.Pattern.{NoCharPasses-char, drop_at_char}
use Rattle.names.specs.declared.fault.NameFault.{NameFault}
use Rattle.modifier_names.specs.Words.{parts, joined, listed_from, word_bits}
use Rattle.modifier_names.proofs.Bars.{NoBar, at_bar, at_end}

-- the parts that are still to come
abbrev pub left : Bool → List ℕ → List (List ℕ)
left live rest = cond live (parts rest) []

module _ (w x : List ℕ) (live : Bool) (rest : List ℕ) where
  -- where a bar was found
  abbrev At : Option (ℕ × ℕ) → Type 0
  At o = MatchOption o ((x ≡ w) × (live ≡ false)) (λ q. 0 < q.1 → (x ≡ take q.0 w) × (live ≡ true) × (rest ≡ drop q.1 w))

  bar : (q : ℕ × ℕ) → FindsChar 124 w (Some q) → At (Some q) → w ≡ x ++ (124 ∷ rest)
  bar q f m =
      let g = m (omega (arith, f.1.ends)) in
      rw (g.0, g.2, ← drop_at_char 124 w q.0 q.1 f.1 (omega arith)) (sym (take-append-drop q.0 w))

  shorter : (o : Option (ℕ × ℕ)) → FindsChar 124 w o → At o → live ≡ true → length x + 1 + length rest ≤ length w
  shorter None f m l = let k = m.1 in cc
  shorter (Some q) f m l = omega (arith, ap length (bar q f m), length-append x (124 ∷ rest))

  pub less : IsSplitAtFirstMatch (FindsChar 124) w x live rest → live ≡ true → length x + 1 + length rest ≤ length w
  less h l = shorter h.1.0 h.1.1 h.1.2 l

  -- r is the answer for the part that came
  module _ (at bits : ℕ) (r : Result ℕ NameFault) (e : r ≡ word_bits at x) where
    turned : (o : Option (ℕ × ℕ)) → FindsChar 124 w o → At o → listed_from at bits (parts w) ≡ joined r bits (λ m. listed_from (at + length x + 1) m (left live rest))
    turned None f m =
        let bare : NoBar x = rw m.0 (λ i h. NoCharPasses-char 124 w i f (omega arith) h) in
        rw m.1 (at_end at bits w x r e (sym m.0) bare)
    turned (Some q) f m =
        let g = m (omega (arith, f.1.ends)) in
        let bare : NoBar x = rw g.0 (λ i h. NoCharPasses-char 124 (take q.0 w) i f.0 (omega arith) h) in
        rw g.1 (at_bar at bits w x r e rest (bar q f m) bare)

    pub turn : IsSplitAtFirstMatch (FindsChar 124) w x live rest → listed_from at bits (parts w) ≡ joined r bits (λ m. listed_from (at + length x + 1) m (left live rest))
    turn h = turned h.1.0 h.1.1 h.1.2
