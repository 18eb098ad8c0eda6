-- The names of modifiers and of lights.
use Rattle.std.specs.Prelude.{ℕ, ◌+◌, cond, List, [], ◌∷◌, ◌++◌, length, codes, ◌==◌}
use Rattle.input_types.specs.Bits.{holds, shift, alt, ctrl, super, caps_lock, num_lock}

unfoldable pub modifier_labels : List (List ℕ × ℕ)
modifier_labels = (codes "SHIFT", shift) ∷ (codes "ALT", alt) ∷ (codes "CTRL", ctrl) ∷ (codes "SUPER", super) ∷ (codes "LEFT_ALT", 32) ∷ (codes "RIGHT_ALT", 64) ∷ (codes "LEADER", 128) ∷ (codes "LEFT_CTRL", 256) ∷ (codes "RIGHT_CTRL", 512) ∷ (codes "LEFT_SHIFT", 1024) ∷ (codes "RIGHT_SHIFT", 2048) ∷ (codes "ENHANCED_KEY", 4096) ∷ []

unfoldable pub led_labels : List (List ℕ × ℕ)
led_labels = (codes "CAPS_LOCK", caps_lock) ∷ (codes "NUM_LOCK", num_lock) ∷ []

-- a label behind those before it, with a bar between
abbrev pub with_label : List ℕ → List ℕ → List ℕ
with_label label [] = label
with_label label (b ∷ bs) = (b ∷ bs) ++ (124 ∷ label)

-- the labels whose bits are all set, behind those so far
abbrev pub labels : List (List ℕ × ℕ) → ℕ → List ℕ → List ℕ
labels [] bits text = text
labels (e ∷ es) bits text = labels es bits (cond (holds bits e.1) (with_label e.0 text) text)

-- how many bytes all labels take at most
abbrev pub room : List (List ℕ × ℕ) → ℕ
room [] = 0
room (e ∷ es) = (length e.0 + 1) + room es

unfoldable pub modifiers_name : ℕ → List ℕ
modifiers_name bits = cond (bits == 0) (codes "NONE") (labels modifier_labels bits [])

unfoldable pub leds_name : ℕ → List ℕ
leds_name bits = labels led_labels bits []
