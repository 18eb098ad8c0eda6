-- A character in UTF-8, as a whole and by its number of bytes.
use Rattle.std.specs.Prelude.{◌≡◌, ℕ, ◌+◌, ◌-◌, ◌/◌, ◌%◌, ◌<◌, ◌≤◌, true, ◌⊎◌, List, [], ◌∷◌, length, slice_index, Ok, Err, Result, ◌≢◌}
use Rattle.std.proofs.Math.Utf8.{scalar, encode}
use Rattle.pieces.specs.declared.found.Fault.{Fault}
use Rattle.pieces.specs.declared.found.Fault.TheVariants.{Short, Unknown}
use Rattle.pieces.specs.declared.found.Letter.{Letter}
use Rattle.pieces.specs.Says.{Says}

-- a character other than ESC
abbrev pub Characters : List ℕ → ℕ → Type 0
Characters s c = (scalar c ≡ true) × (c ≢ 27) × (s ≡ encode c)

abbrev pub One : List ℕ → ℕ → Type 0
One s c = (c < 128) × (s ≡ c ∷ [])

abbrev pub Two : List ℕ → ℕ → Type 0
Two s c = (128 ≤ c) × (c < 2048) × (s ≡ (192 + c / 64) ∷ (128 + c % 64) ∷ [])

-- no surrogate
abbrev pub Plain : ℕ → Type 0
Plain c = (c < 55296) ⊎ ((57344 ≤ c) × (c < 1114112))

abbrev pub Three : List ℕ → ℕ → Type 0
Three s c = (2048 ≤ c) × (c < 65536) × Plain c × (s ≡ (224 + c / 4096) ∷ (128 + c / 64 % 64) ∷ (128 + c % 64) ∷ [])

abbrev pub Four : List ℕ → ℕ → Type 0
Four s c = (65536 ≤ c) × (c < 1114112) × (s ≡ (240 + c / 262144) ∷ (128 + c / 4096 % 64) ∷ (128 + c / 64 % 64) ∷ (128 + c % 64) ∷ [])

abbrev pub Spells : (List ℕ → ℕ → Type 0) → List ℕ → Result Letter Fault → Type 0
Spells L given r = Says L (λ x. x.code) (λ x. x.next) given 0 r

-- the six bits that the byte at a place adds
abbrev pub Trails : List ℕ → ℕ → Result ℕ Fault → Type 0
Trails given at (Ok n) = (at < length given) × (128 ≤ slice_index given at) × (slice_index given at < 192) × (n ≡ slice_index given at - 128)
Trails given at (Err Short) = length given ≤ at
Trails given at (Err Unknown) = (at < length given) × ((slice_index given at < 128) ⊎ (192 ≤ slice_index given at))
