-- The bytes of a key that a check reads as text.
use Rattle.std.specs.Prelude.{ℕ, List, []}
use Rattle.events.specs.Kinds.{PlainKind, character, composed, numpad, function, numbered, lettered, other}

-- the bytes of a composed key; others have none
abbrev pub bytes_of : PlainKind → List ℕ
bytes_of (character c) = []
bytes_of (composed bs) = bs
bytes_of (numpad n) = []
bytes_of (function n) = []
bytes_of (numbered n) = []
bytes_of (lettered l) = []
bytes_of other = []
