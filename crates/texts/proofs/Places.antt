-- The place of the character after the first n.
use Rattle.std.proofs.Common.{◌≡◌, ℕ, zero, suc, ◌+◌, ◌≤◌, List, [], ◌∷◌, ◌++◌, length, Some, None, IsUtf8, Option, MatchOption, sym, refl, ap, ◌∙◌, arith}
use lib.Utf8.{encode}
use Rattle.std.specs.Iterator.{Yields}
use Rattle.std.specs.Option.{option_map}
use Rattle.std.specs.Str.{chars}
use Rattle.std.specs.declared.str.CharIndices.{CharIndices}
use Rattle.std.specs.Str.Iter.{char_indices_steps, char_indices_rest, char_indices_offset}
use Rattle.std.proofs.lemmas.Str.{chars_past_char, chars-nil, length-encode, IsUtf8-past_char}
use Rattle.texts.specs.Texts.{place_after}

module _ (at c : ℕ) (bs rest : List ℕ) (u : IsUtf8 bs) (e : bs ≡ encode c ++ rest) where
  pub here : place_after at 0 (chars bs) ≡ Some at
  here = rw (chars_past_char bs rest c u e) refl

  pub on : (n : ℕ) → place_after at (suc n) (chars bs) ≡ place_after (at + length (encode c)) n (chars rest)
  on n = rw (chars_past_char bs rest c u e, length-encode c) refl

pub nothing : (at n : ℕ) (bs : List ℕ) → length bs ≡ 0 → place_after at n (chars bs) ≡ None
nothing at n [] h = rw chars-nil refl
nothing at n (b ∷ bs) h = absurd (omega arith)

module _ (s j : CharIndices) (x : ℕ × ℕ) (v : IsUtf8 (char_indices_rest s)) (e : char_indices_steps s (Some x) j) where
  after_one : IsUtf8 (char_indices_rest j)
  after_one = IsUtf8-past_char (char_indices_rest s) (char_indices_rest j) x.1 v e.1

  one_less : (n : ℕ) → place_after (char_indices_offset j) n (chars (char_indices_rest j)) ≡ place_after (char_indices_offset s) (suc n) (chars (char_indices_rest s))
  one_less n = rw e.2 (sym (on (char_indices_offset s) x.1 (char_indices_rest s) (char_indices_rest j) v e.1 n))

-- the characters past the first n, one call of `next` after another
pub passed : (s t u : CharIndices) (n : ℕ) (xs : List (ℕ × ℕ)) (r : Option (ℕ × ℕ)) → IsUtf8 (char_indices_rest s) → Yields char_indices_steps s xs t → char_indices_steps t r u → MatchOption r (length xs ≤ n) (λ _. length xs ≡ n) → option_map (λ (p : ℕ × ℕ). p.0) r ≡ place_after (char_indices_offset s) n (chars (char_indices_rest s))
passed s t u n [] None v y e l = sym (nothing (char_indices_offset s) n (char_indices_rest s) (rw (← y) at e.0))
passed s t u zero [] (Some p) v y e l = let f = rw (← y) at e in ap Some f.0 ∙ sym (here (char_indices_offset s) p.1 (char_indices_rest s) (char_indices_rest u) v f.1)
passed s t u (suc n) [] (Some p) v y e l = absurd (omega arith)
passed s t u zero (x ∷ xs) None v y e l = absurd (omega arith)
passed s t u zero (x ∷ xs) (Some p) v y e l = absurd (omega arith)
passed s t u (suc n) (x ∷ xs) None v y e l = passed y.0 t u n xs None (after_one s y.0 x v y.1) y.2 e (omega arith) ∙ one_less s y.0 x v y.1 n
passed s t u (suc n) (x ∷ xs) (Some p) v y e l = passed y.0 t u n xs (Some p) (after_one s y.0 x v y.1) y.2 e (omega arith) ∙ one_less s y.0 x v y.1 n
