-- A report as a frame: two bytes of length, counting what follows, two bytes of kind, and the parts, all little-endian.
use Rattle.std.specs.Prelude.{ℕ, ◌/◌, ◌%◌, List, [], ◌∷◌, ◌++◌, length, Some, None, Option}
use Rattle.std.specs.List.{flat_map}
use Rattle.report.specs.Meanings.{Meaning, Fields, text, old, answer, sequence}
use Rattle.frames.specs.declared.frames.FrameKind.{FrameKind}
use Rattle.frames.specs.declared.frames.FrameKind.TheVariants.{Text, Sequence, Answer, Old}
use Rattle.report.specs.Endings.{direction_number, last_byte}

abbrev pub le16 : ℕ → List ℕ
le16 n = n % 256 ∷ n / 256 % 256 ∷ []

abbrev pub le32 : ℕ → List ℕ
le32 n = n % 256 ∷ n / 256 % 256 ∷ n / 65536 % 256 ∷ n / 16777216 % 256 ∷ []

-- the number of a kind
abbrev pub kind_number : FrameKind → ℕ
kind_number Text = 1
kind_number Sequence = 2
kind_number Answer = 3
kind_number Old = 4

-- a code, or FFFFFFFF where it is absent
abbrev pub or_none : Option ℕ → ℕ
or_none None = 4294967295
or_none (Some n) = n

-- the number, the shifted and the base code; the sum, the direction, the final byte and how many characters; the characters
abbrev pub field_bytes : Fields → List ℕ
field_bytes f = le32 f.number ++ (le32 (or_none f.shifted) ++ (le32 (or_none f.base) ++ (f.sum ∷ direction_number f.direction ∷ last_byte f.last ∷ length f.text ∷ flat_map le32 f.text)))

-- the kind, and what the frame of that kind holds
abbrev pub framed : Meaning → List ℕ
framed (text c) = le16 (kind_number Text) ++ le32 c
framed (old c) = le16 (kind_number Old) ++ le32 c
framed (answer n) = le16 (kind_number Answer) ++ (n ∷ [])
framed (sequence f) = le16 (kind_number Sequence) ++ field_bytes f

abbrev pub frame_bytes : Meaning → List ℕ
frame_bytes m = le16 (length (framed m)) ++ framed m
