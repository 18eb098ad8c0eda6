-- The keys of the keypad: their places in a table, and their two numbers.
use Rattle.std.specs.Prelude.{◌≡◌, ℕ, ◌<◌, Bool, cond, List, [], ◌∷◌, Some, None, Option, slice_index_or}
use Rattle.std.specs.Option.{option_map}
use Rattle.input_types.specs.declared.phys_key_code.PhysKeyCode.{PhysKeyCode}
use Rattle.input_types.specs.declared.phys_key_code.PhysKeyCode.TheVariants as P
use Rattle.rules.specs.declared.keypad.Pad.{Pad}

-- the place of each key of the keypad in the table
abbrev pub pad_place : PhysKeyCode → Option ℕ
pad_place P.A = None
pad_place P.B = None
pad_place P.Backslash = None
pad_place P.C = None
pad_place P.CapsLock = None
pad_place P.Comma = None
pad_place P.D = None
pad_place P.Backspace = None
pad_place P.DownArrow = None
pad_place P.E = None
pad_place P.End = None
pad_place P.Equal = None
pad_place P.Escape = None
pad_place P.F = None
pad_place P.F1 = None
pad_place P.F10 = None
pad_place P.F11 = None
pad_place P.F12 = None
pad_place P.F13 = None
pad_place P.F14 = None
pad_place P.F15 = None
pad_place P.F16 = None
pad_place P.F17 = None
pad_place P.F18 = None
pad_place P.F19 = None
pad_place P.F2 = None
pad_place P.F20 = None
pad_place P.F21 = None
pad_place P.F22 = None
pad_place P.F23 = None
pad_place P.F24 = None
pad_place P.F3 = None
pad_place P.F4 = None
pad_place P.F5 = None
pad_place P.F6 = None
pad_place P.F7 = None
pad_place P.F8 = None
pad_place P.F9 = None
pad_place P.Delete = None
pad_place P.Function = None
pad_place P.G = None
pad_place P.Grave = None
pad_place P.H = None
pad_place P.Help = None
pad_place P.Home = None
pad_place P.I = None
pad_place P.Insert = None
pad_place P.J = None
pad_place P.K = None
pad_place P.K0 = None
pad_place P.K1 = None
pad_place P.K2 = None
pad_place P.K3 = None
pad_place P.K4 = None
pad_place P.K5 = None
pad_place P.K6 = None
pad_place P.K7 = None
pad_place P.K8 = None
pad_place P.K9 = None
pad_place P.Keypad0 = Some 0
pad_place P.Keypad1 = Some 1
pad_place P.Keypad2 = Some 2
pad_place P.Keypad3 = Some 3
pad_place P.Keypad4 = Some 4
pad_place P.Keypad5 = Some 5
pad_place P.Keypad6 = Some 6
pad_place P.Keypad7 = Some 7
pad_place P.Keypad8 = Some 8
pad_place P.Keypad9 = Some 9
pad_place P.KeypadClear = None
pad_place P.KeypadDecimal = Some 10
pad_place P.KeypadDelete = Some 17
pad_place P.KeypadDivide = Some 11
pad_place P.KeypadEnter = Some 15
pad_place P.KeypadEquals = Some 16
pad_place P.KeypadSubtract = Some 13
pad_place P.KeypadMultiply = Some 12
pad_place P.KeypadAdd = Some 14
pad_place P.L = None
pad_place P.LeftAlt = None
pad_place P.LeftArrow = None
pad_place P.LeftBracket = None
pad_place P.LeftControl = None
pad_place P.LeftShift = None
pad_place P.LeftWindows = None
pad_place P.M = None
pad_place P.Minus = None
pad_place P.VolumeMute = None
pad_place P.N = None
pad_place P.NumLock = None
pad_place P.O = None
pad_place P.P = None
pad_place P.PageDown = None
pad_place P.PageUp = None
pad_place P.Period = None
pad_place P.Q = None
pad_place P.Quote = None
pad_place P.R = None
pad_place P.Return = None
pad_place P.RightAlt = None
pad_place P.RightArrow = None
pad_place P.RightBracket = None
pad_place P.RightControl = None
pad_place P.RightShift = None
pad_place P.RightWindows = None
pad_place P.S = None
pad_place P.Semicolon = None
pad_place P.Slash = None
pad_place P.Space = None
pad_place P.T = None
pad_place P.Tab = None
pad_place P.U = None
pad_place P.UpArrow = None
pad_place P.V = None
pad_place P.VolumeDown = None
pad_place P.VolumeUp = None
pad_place P.W = None
pad_place P.X = None
pad_place P.Y = None
pad_place P.Z = None

-- a key, its number with Num Lock, and its number without; 1 stands for the key in the middle, which holds a final of its own
abbrev pub pad : PhysKeyCode → ℕ → ℕ → Pad
pad p on off = record { phys = p; locked = on; unlocked = off }

-- past the end of a table
abbrev pub no_pad : Pad
no_pad = pad P.A 0 0

abbrev pub pads : List Pad
pads =
    pad P.Keypad0 57399 57425 ∷
    pad P.Keypad1 57400 57424 ∷
    pad P.Keypad2 57401 57420 ∷
    pad P.Keypad3 57402 57422 ∷
    pad P.Keypad4 57403 57417 ∷
    pad P.Keypad5 57404 1 ∷
    pad P.Keypad6 57405 57418 ∷
    pad P.Keypad7 57406 57423 ∷
    pad P.Keypad8 57407 57419 ∷
    pad P.Keypad9 57408 57421 ∷
    pad P.KeypadDecimal 57409 57409 ∷
    pad P.KeypadDivide 57410 57410 ∷
    pad P.KeypadMultiply 57411 57411 ∷
    pad P.KeypadSubtract 57412 57412 ∷
    pad P.KeypadAdd 57413 57413 ∷
    pad P.KeypadEnter 57414 57414 ∷
    pad P.KeypadEquals 57415 57415 ∷
    pad P.KeypadDelete 57426 57426 ∷
    []

-- the number at a place of a table
abbrev pub number_in : List Pad → ℕ → Bool → ℕ
number_in table i lock = cond lock (slice_index_or table i no_pad).locked (slice_index_or table i no_pad).unlocked

abbrev pub pad_number : ℕ → Bool → ℕ
pad_number i lock = number_in pads i lock

-- the number of a key of the keypad; other keys of the keyboard have none
abbrev pub pad_code : PhysKeyCode → Bool → Option ℕ
pad_code p lock = option_map (λ i. pad_number i lock) (pad_place p)

-- each entry of the table stands at the place of its key
abbrev pub Placed : Type 0
Placed = (i : ℕ) → i < 18 → pad_place (slice_index_or pads i no_pad).phys ≡ Some i
