-- The typed text, one character more at a time.
use Rattle.std.proofs.Common.{◌≡◌, ℕ, zero, suc, ◌+◌, ◌<◌, List, [], ◌∷◌, ◌++◌, length, get_or, take, drop, decimal, length-drop, sym, refl, ap, ◌∙◌, arith}
use Rattle.std.proofs.lemmas.List.{append-nil, append_assoc, take_more, drop_more}
use Rattle.dialect.specs.KittyBytes.{further, typed}

further_push : (xs : List ℕ) (c : ℕ) → further (xs ++ (c ∷ [])) ≡ further xs ++ (58 ∷ decimal c)
further_push [] c = ap (λ t. 58 ∷ t) (append-nil (decimal c))
further_push (x ∷ xs) c = ap (λ t. 58 ∷ (decimal x ++ t)) (further_push xs c) ∙ ap (λ t. 58 ∷ t) (sym (append_assoc (decimal x) (further xs) (58 ∷ decimal c)))

-- the mark before the next character
abbrev pub mark : List ℕ → ℕ
mark [] = 59
mark (x ∷ xs) = 58

typed_push : (xs : List ℕ) (c : ℕ) → typed (xs ++ (c ∷ [])) ≡ typed xs ++ (mark xs ∷ decimal c)
typed_push [] c = ap (λ t. 59 ∷ t) (append-nil (decimal c))
typed_push (x ∷ xs) c = ap (λ t. 59 ∷ (decimal x ++ t)) (further_push xs c) ∙ ap (λ t. 59 ∷ t) (sym (append_assoc (decimal x) (further xs) (58 ∷ decimal c)))

pub typed_more : (cs : List ℕ) (i m : ℕ) → i < length cs → m ≡ mark (take i cs) → typed (take i cs) ++ (m ∷ decimal (get_or cs i 0)) ≡ typed (take (i + 1) cs)
typed_more cs i m h e = ap (λ k. typed (take i cs) ++ (k ∷ decimal (get_or cs i 0))) e ∙ sym (typed_push (take i cs) (get_or cs i 0)) ∙ ap typed (sym (take_more cs i 0 h))

-- a colon stands before each character but the first
pub mark_next : (cs : List ℕ) (i : ℕ) → 0 < i → 0 < length cs → mark (take i cs) ≡ 58
mark_next cs zero h l = absurd (omega arith)
mark_next [] (suc i) h l = absurd (omega arith)
mark_next (c ∷ cs) (suc i) h l = refl

-- the next character of a text, where it goes on with one
module _ (cs : List ℕ) (i c : ℕ) (rest : List ℕ) (h : drop i cs ≡ c ∷ rest) where
  pub inside : i < length cs
  inside = let n = length-drop i cs in let m : length (drop i cs) ≡ suc (length rest) = rw h refl in omega (arith, n, m)

  pub next_is : get_or cs i 0 ≡ c
  next_is = let e = drop_more cs i 0 inside in ap (λ xs. get_or xs 0 0) (sym e ∙ h)

  pub behind_is : drop (i + 1) cs ≡ rest
  behind_is = let e = drop_more cs i 0 inside in ap (λ xs. drop 1 xs) (sym e ∙ h)
