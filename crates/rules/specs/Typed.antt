-- The text that a key types.
use Rattle.std.specs.Prelude.{ℕ, ◌+◌, Bool, cond, ◌&&◌, List, [], ◌∷◌}
use Rattle.std.specs.Str.{chars}
use Rattle.report.specs.Letters.{shown}
use Rattle.input_types.specs.Bits.{holds, associated_text}
use Rattle.events.specs.Kinds.{PlainKind, character, composed, numpad, function, numbered, lettered, other}

-- The text of a key is its character, the digit of a keypad key, or the characters of composed text.
abbrev pub text_of : PlainKind → List ℕ
text_of (character c) = c ∷ []
text_of (composed bs) = chars bs
text_of (numpad n) = (48 + n) ∷ []
text_of (function n) = []
text_of (numbered n) = []
text_of (lettered l) = []
text_of other = []

-- A press holds its text where associated text is asked for; a release holds none.
abbrev pub typed : ℕ → Bool → PlainKind → List ℕ
typed flags down k = cond (down && holds flags associated_text) (shown (text_of k)) []
