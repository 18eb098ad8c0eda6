-- Which bytes are text, which characters are keys, and the places of characters.
use Rattle.std.specs.Prelude.{ℕ, zero, suc, ◌+◌, Bool, cond, not, ◌&&◌, List, [], ◌∷◌, reverse, take, Some, None, Option, ◌==◌, nat_le}
use Rattle.std.proofs.Math.Utf8.{scalars, encodes}
use Rattle.std.specs.Char.{len_utf8, is_whitespace}
use Rattle.std.specs.Str.{chars, bytes_eq}

-- the bytes are the UTF-8 of the characters that they decode to
unfoldable pub utf8 : List ℕ → Bool
utf8 bs = scalars (chars bs) && bytes_eq (encodes (chars bs)) bs

-- how many bytes the longest front that is text has, of the first n
unfoldable pub front : ℕ → List ℕ → ℕ
front zero bs = 0
front (suc n) bs = cond (utf8 (take (suc n) bs)) (suc n) (front n bs)

-- a key is any character outside U+E000 to U+F8FF
abbrev pub allowed : ℕ → Bool
allowed c = not (nat_le 57344 c && nat_le c 63743)

-- what follows a beginning of the text
abbrev pub follows : List ℕ → List ℕ → Option (List ℕ)
follows [] s = Some s
follows (b ∷ bs) [] = None
follows (b ∷ bs) (x ∷ xs) = cond (b == x) (follows bs xs) None

-- the character of a text that has just one
abbrev pub only : List ℕ → Option ℕ
only [] = None
only (c ∷ []) = Some c
only (c ∷ d ∷ cs) = None

-- the place in bytes of the character after the first n, where the text begins at a place
abbrev pub place_after : ℕ → ℕ → List ℕ → Option ℕ
place_after at n [] = None
place_after at zero (c ∷ cs) = Some at
place_after at (suc n) (c ∷ cs) = place_after (at + len_utf8 c) n cs

-- how many bytes of white space characters begin with
abbrev pub blank : List ℕ → ℕ
blank [] = 0
blank (c ∷ cs) = cond (is_whitespace c) (len_utf8 c + blank cs) 0

-- characters without the white space that they begin with
abbrev pub bare : List ℕ → List ℕ
bare [] = []
bare (c ∷ cs) = cond (is_whitespace c) (bare cs) (c ∷ cs)

-- a text without the white space around it
unfoldable pub trim : List ℕ → List ℕ
trim s = encodes (reverse (bare (reverse (bare (chars s)))))
