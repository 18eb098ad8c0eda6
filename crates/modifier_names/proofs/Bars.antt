-- The parts of a text between its bars: at the first bar, and where there is none.
use Rattle.std.proofs.Common.{◌≡◌, ℕ, suc, ◌+◌, ◌<◌, cond, eqb, List, [], ◌∷◌, ◌++◌, length, get_or, Ok, Result, sym, refl, ap, ◌∙◌, arith}
use Rattle.std.proofs.lemmas.Bool.Decides.{nat_tests}
use Rattle.names.specs.declared.fault.NameFault.{NameFault}
use Rattle.modifier_names.specs.Words.{parts, onto, joined, listed_from, word_bits}

abbrev pub NoBar : List ℕ → Type 0
NoBar xs = (i : ℕ) → i < length xs → get_or xs i 0 ≡ 124 → ⊥

no_bar : (b : ℕ) (ws : List (List ℕ)) → (b ≡ 124 → ⊥) → cond (eqb b 124) ([] ∷ ws) (onto b ws) ≡ onto b ws
no_bar b ws h = grind (arith, nat_tests)

later : (b : ℕ) (xs : List ℕ) → NoBar (b ∷ xs) → NoBar xs
later b xs h i l e = h (suc i) (omega arith) e

parts_bar : (xs ys : List ℕ) → NoBar xs → parts (xs ++ (124 ∷ ys)) ≡ xs ∷ parts ys
parts_bar [] ys h = refl
parts_bar (b ∷ xs) ys h = no_bar b (parts (xs ++ (124 ∷ ys))) (λ e. h 0 (omega arith) e) ∙ ap (onto b) (parts_bar xs ys (later b xs h))

parts_end : (xs : List ℕ) → NoBar xs → parts xs ≡ xs ∷ []
parts_end [] h = refl
parts_end (b ∷ xs) h = no_bar b (parts xs) (λ e. h 0 (omega arith) e) ∙ ap (onto b) (parts_end xs (later b xs h))

-- the word before the first bar, or the last word, which r is the answer for
module _ (at bits : ℕ) (rest part : List ℕ) (r : Result ℕ NameFault) (e : r ≡ word_bits at part) where
  word : (ps : List (List ℕ)) → parts rest ≡ (part ∷ ps) → listed_from at bits (parts rest) ≡ joined r bits (λ m. listed_from (at + length part + 1) m ps)
  word ps q = ap (listed_from at bits) q ∙ ap (λ (x : Result ℕ NameFault). joined x bits (λ m. listed_from (at + length part + 1) m ps)) (sym e)

  pub at_bar : (more : List ℕ) → rest ≡ part ++ (124 ∷ more) → NoBar part → listed_from at bits (parts rest) ≡ joined r bits (λ m. listed_from (at + length part + 1) m (parts more))
  at_bar more p h = word (parts more) (ap parts p ∙ parts_bar part more h)

  pub at_end : rest ≡ part → NoBar part → listed_from at bits (parts rest) ≡ joined r bits (λ m. Ok record { bits = m })
  at_end p h = word [] (ap parts p ∙ parts_end part h)
