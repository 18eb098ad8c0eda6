-- The bits of modifiers, lights and settings, and what is computed from them.
use Rattle.std.specs.Prelude.{ℕ, ◌+◌, ◌-◌, Bool, cond, ◌==◌, bit_and}

-- the bits n hold all of k
abbrev pub holds : ℕ → ℕ → Bool
holds n k = bit_and n k == k

-- the settings of the protocol
abbrev pub disambiguate : ℕ
disambiguate = 1

abbrev pub event_types : ℕ
event_types = 2

abbrev pub alternate_keys : ℕ
alternate_keys = 4

abbrev pub all_keys : ℕ
all_keys = 8

abbrev pub associated_text : ℕ
associated_text = 16

-- the modifiers
abbrev pub shift : ℕ
shift = 2

abbrev pub alt : ℕ
alt = 4

abbrev pub ctrl : ℕ
ctrl = 8

abbrev pub super : ℕ
super = 16

-- the bits that tell the left key from the right one, and the mark of an enhanced key
abbrev pub positional : ℕ
positional = 8032

-- the lights
abbrev pub caps_lock : ℕ
caps_lock = 2

abbrev pub num_lock : ℕ
num_lock = 4

-- the bits 1 to 12 of the modifiers have names
abbrev pub named_modifiers : ℕ → Bool
named_modifiers m = bit_and m 57345 == 0

-- the bits 1 and 2 of the lights have names
abbrev pub named_lights : ℕ → Bool
named_lights l = bit_and l 249 == 0

-- the bits m with those of k cleared
abbrev pub without : ℕ → ℕ → ℕ
without m k = bit_and m (65535 - k)

abbrev pub weight : Bool → ℕ → ℕ
weight b n = cond b n 0

-- xterm counts Shift 1, Alt 2 and Ctrl 4
abbrev pub xterm_of : ℕ → ℕ
xterm_of m = weight (holds m shift) 1 + weight (holds m alt) 2 + weight (holds m ctrl) 4

-- the protocol's modifier sum counts Super 8, Caps Lock 64 and Num Lock 128 as well
abbrev pub sum_of : ℕ → ℕ → ℕ
sum_of m l = xterm_of m + weight (holds m super) 8 + weight (holds l caps_lock) 64 + weight (holds l num_lock) 128
