-- The modifiers that a list of words names: the words stand between bars, with white space around them.
use Rattle.std.specs.Prelude.{ℕ, ◌+◌, cond, List, [], ◌∷◌, length, Ok, Err, codes, Result, ◌==◌, bit_or}
use Rattle.std.specs.Str.{chars}
use Rattle.tables.specs.Tables.{bears}
use Rattle.texts.specs.Texts.{blank, trim}
use Rattle.input_types.specs.declared.modifiers.Modifiers.{Modifiers}
use Rattle.input_types.specs.Bits.{shift, alt, ctrl, super}
use Rattle.names.specs.declared.fault.NameFault.{NameFault}
use Rattle.names.specs.declared.fault.NameFault.TheVariants.{Unknown}
use Rattle.names.specs.Reads.{or_else}

-- the words, and no word for no modifier
unfoldable pub words : List (List ℕ × ℕ)
words =
    (codes "SHIFT", shift) ∷ (codes "ALT", alt) ∷ (codes "OPT", alt) ∷ (codes "META", alt)
    ∷ (codes "CTRL", ctrl) ∷ (codes "SUPER", super) ∷ (codes "CMD", super) ∷ (codes "WIN", super)
    ∷ (codes "LEADER", 128) ∷ (codes "NONE", 0) ∷ (codes "", 0)
    ∷ []

-- the bits of the word in a part that begins at a place; a word with no meaning refuses at its own place
unfoldable pub word_bits : ℕ → List ℕ → Result ℕ NameFault
word_bits at part = or_else (Unknown (at + blank (chars part))) (bears words (trim part))

abbrev pub onto : ℕ → List (List ℕ) → List (List ℕ)
onto b [] = (b ∷ []) ∷ []
onto b (p ∷ ps) = (b ∷ p) ∷ ps

-- the parts of a text between its bars
abbrev pub parts : List ℕ → List (List ℕ)
parts [] = [] ∷ []
parts (b ∷ bs) = cond (b == 124) ([] ∷ parts bs) (onto b (parts bs))

abbrev pub joined : Result ℕ NameFault → ℕ → (ℕ → Result Modifiers NameFault) → Result Modifiers NameFault
joined (Ok m) bits next = next (bit_or bits m)
joined (Err fault) bits next = Err fault

-- the modifiers of the parts from a place on, joined to the bits so far; the first word with no meaning refuses
abbrev pub listed_from : ℕ → ℕ → List (List ℕ) → Result Modifiers NameFault
listed_from at bits [] = Ok record { bits = bits }
listed_from at bits (p ∷ ps) = joined (word_bits at p) bits (λ m. listed_from (at + length p + 1) m ps)

abbrev pub listed : List ℕ → Result Modifiers NameFault
listed s = listed_from 0 0 (parts s)
