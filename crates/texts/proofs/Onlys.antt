-- A text of no character, of one, and of more.
use Rattle.std.proofs.Common.{◌≡◌, ℕ, List, [], ◌∷◌, ◌++◌, length, Some, None, IsUtf8, refl, arith}
use lib.Utf8.{encode}
use Rattle.std.specs.Str.{chars}
use Rattle.std.proofs.lemmas.Str.{chars_past_char, chars-nil, IsUtf8-past_char}
use Rattle.texts.specs.Texts.{only}

empty : (bs : List ℕ) → length bs ≡ 0 → chars bs ≡ []
empty [] h = chars-nil
empty (b ∷ bs) h = absurd (omega arith)

pub none : (bs : List ℕ) → length bs ≡ 0 → None ≡ only (chars bs)
none bs h = rw (empty bs h) refl

module _ (bs rest : List ℕ) (c : ℕ) (u : IsUtf8 bs) (e : bs ≡ encode c ++ rest) where
  pub one : length rest ≡ 0 → Some c ≡ only (chars bs)
  one h = rw (chars_past_char bs rest c u e, empty rest h) refl

  pub more : (d : ℕ) (end : List ℕ) → rest ≡ encode d ++ end → None ≡ only (chars bs)
  more d end f = rw (chars_past_char bs rest c u e, chars_past_char rest end d (IsUtf8-past_char bs rest c u e) f) refl
