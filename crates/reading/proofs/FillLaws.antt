-- From what is found to what a reader of a dialect promises.
use Rattle.std.proofs.Common.{◌≡◌, ℕ, ◌+◌, ◌<◌, ◌≤◌, List, [], ◌∷◌, ◌++◌, length, get_or, take, drop, set, Ok, Err, Result, sym, refl, ap, ◌∙◌, subst, arith, length-append}
use Rattle.std.proofs.lemmas.List.{append-nil, length-drop, take_more, drop_more, length-take-le}
use Rattle.report.specs.Meanings.{Meaning, means}
use Rattle.pieces.specs.declared.found.Fault.{Fault}
use Rattle.pieces.specs.declared.found.Fault.TheVariants.{Short, Unknown}
use Rattle.pieces.specs.Languages.{Takes, whole}
use Rattle.reading.specs.declared.faults.ReadFault.{ReadFault}
use Rattle.pieces.specs.declared.found.Seen.{Seen}
use Rattle.reading.specs.Faults.{read_fault}
use Rattle.reading.specs.Filling.{Stores}
use Rattle.pieces.specs.Reports.{Spoken, Sees}
use Rattle.reading.specs.Reading.{Begins, Fills}

-- a write at the seam of two lists
set_seam : (xs ys : List ℕ) (y c : ℕ) (n : ℕ) → length xs ≡ n → set (xs ++ (y ∷ ys)) n c ≡ (xs ++ (c ∷ [])) ++ ys
set_seam xs ys y c n e = subst (λ k. set (xs ++ (y ∷ ys)) k c ≡ (xs ++ (c ∷ [])) ++ ys) e (go xs)
  where
    go : (xs : List ℕ) → set (xs ++ (y ∷ ys)) (length xs) c ≡ (xs ++ (c ∷ [])) ++ ys
    go [] = refl
    go (x ∷ xs) = ap (λ z. x ∷ z) (go xs)

pub row_more : (codes before row : List ℕ) (i : ℕ) → i < length codes → i < length before → row ≡ take i codes ++ drop i before → set row i (get_or codes i 0) ≡ take (i + 1) codes ++ drop (i + 1) before
row_more codes before row i h k e =
    ap (λ r. set r i (get_or codes i 0)) (e ∙ ap (λ x. take i codes ++ x) (drop_more before i 0 k)) ∙ set_seam (take i codes) (drop (i + 1) before) (get_or before i 0) (get_or codes i 0) i (length-take-le i codes (omega arith)) ∙ ap (λ x. x ++ drop (i + 1) before) (sym (take_more codes i 0 h))

module _ (bytes : Meaning → List ℕ) (given : List ℕ) where
  begun : (m : Meaning) (t : List ℕ) → Takes (Spoken bytes) given (whole m t) → Begins bytes given m
  begun m t p = (p.1.0, (t, ap (λ x. x ++ t) (sym p.1.1) ∙ p.2))

  took : (m : Meaning) (n : ℕ) → Takes (Spoken bytes) given (whole m (drop n given)) → n ≤ length given → n ≡ length (bytes m)
  took m n p l =
      let a : length p.0 + length (drop n given) ≡ length given = sym (length-append p.0 (drop n given)) ∙ ap length p.2 in
      let b : length p.0 ≡ length (bytes m) = ap length p.1.1 in
      omega (arith, a, b, length-drop n given)

  fault : (before : List ℕ) (e : Fault) → Sees (Spoken bytes) given 0 (Err e) → Fills bytes given before before (Err (read_fault e))
  fault before Short p = ((p.0, (p.3.0, (p.1, p.2, p.3.1))), refl)
  fault before Unknown p = ((λ m q. p m (bytes m) q.1.0 [] (q.0, refl) (q.1.1 ∙ sym (append-nil given))), (λ m q. p m (bytes m) [] q.1.0 (q.0, refl) (append-nil (bytes m) ∙ sym q.1.2)), refl)

  -- what is found, and the text stored or not, is what the reader promises
  pub stored : (found : Result Seen Fault) (before after : List ℕ) (r : Result Seen ReadFault) → Sees (Spoken bytes) given 0 found → Stores found before after r → Fills bytes given before after r
  stored (Ok s) before after (Ok t) p q = subst (λ x. Fills bytes given before after (Ok x)) (sym q.0) (begun (means s.report) (drop s.length given) p.0, took (means s.report) s.length p.0 p.1, q.1.0, q.1.1)
  stored (Ok s) before after (Err e) p q = subst (λ x. Fills bytes given before after (Err x)) (sym q.0) ((means s.report, begun (means s.report) (drop s.length given) p.0, q.1.0), q.1.1)
  stored (Err f) before after (Ok t) p q = absurd q
  stored (Err f) before after (Err e) p q = subst (λ x. Fills bytes given before after (Err x)) (sym q.0) (subst (λ x. Fills bytes given before x (Err (read_fault f))) (sym q.1) (fault before f p))
