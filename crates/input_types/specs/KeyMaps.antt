-- The place of a key on a US keyboard, where it has one, and which keys are modifier keys.
use Rattle.std.specs.Prelude.{ℕ, Bool, true, false, List, [], ◌∷◌, Some, None, Option}
use Rattle.tables.specs.Tables.{beside}
use Rattle.input_types.specs.declared.phys_key_code.PhysKeyCode.{PhysKeyCode}
use Rattle.input_types.specs.declared.phys_key_code.PhysKeyCode.TheVariants as P
use Rattle.input_types.specs.declared.key_code.KeyCode.{KeyCode}
use Rattle.input_types.specs.declared.key_code.KeyCode.TheVariants as K

-- the characters that a US keyboard types, the letters in both cases
abbrev pub chars : List (ℕ × PhysKeyCode)
chars =
    (97, P.A) ∷ (65, P.A) ∷ (98, P.B) ∷ (66, P.B) ∷ (99, P.C) ∷ (67, P.C) ∷ (100, P.D) ∷ (68, P.D)
    ∷ (101, P.E) ∷ (69, P.E) ∷ (102, P.F) ∷ (70, P.F) ∷ (103, P.G) ∷ (71, P.G) ∷ (104, P.H) ∷ (72, P.H)
    ∷ (105, P.I) ∷ (73, P.I) ∷ (106, P.J) ∷ (74, P.J) ∷ (107, P.K) ∷ (75, P.K) ∷ (108, P.L) ∷ (76, P.L)
    ∷ (109, P.M) ∷ (77, P.M) ∷ (110, P.N) ∷ (78, P.N) ∷ (111, P.O) ∷ (79, P.O) ∷ (112, P.P) ∷ (80, P.P)
    ∷ (113, P.Q) ∷ (81, P.Q) ∷ (114, P.R) ∷ (82, P.R) ∷ (115, P.S) ∷ (83, P.S) ∷ (116, P.T) ∷ (84, P.T)
    ∷ (117, P.U) ∷ (85, P.U) ∷ (118, P.V) ∷ (86, P.V) ∷ (119, P.W) ∷ (87, P.W) ∷ (120, P.X) ∷ (88, P.X)
    ∷ (121, P.Y) ∷ (89, P.Y) ∷ (122, P.Z) ∷ (90, P.Z) ∷ (48, P.K0) ∷ (49, P.K1) ∷ (50, P.K2) ∷ (51, P.K3)
    ∷ (52, P.K4) ∷ (53, P.K5) ∷ (54, P.K6) ∷ (55, P.K7) ∷ (56, P.K8) ∷ (57, P.K9) ∷ (92, P.Backslash) ∷ (44, P.Comma)
    ∷ (8, P.Backspace) ∷ (127, P.Delete) ∷ (61, P.Equal) ∷ (27, P.Escape) ∷ (96, P.Grave) ∷ (13, P.Return) ∷ (91, P.LeftBracket) ∷ (93, P.RightBracket)
    ∷ (45, P.Minus) ∷ (46, P.Period) ∷ (39, P.Quote) ∷ (59, P.Semicolon) ∷ (47, P.Slash) ∷ (32, P.Space) ∷ (9, P.Tab)
    ∷ []

-- the digits of the keypad
abbrev pub digits : List (ℕ × PhysKeyCode)
digits =
    (0, P.Keypad0) ∷ (1, P.Keypad1) ∷ (2, P.Keypad2) ∷ (3, P.Keypad3) ∷ (4, P.Keypad4)
    ∷ (5, P.Keypad5) ∷ (6, P.Keypad6) ∷ (7, P.Keypad7) ∷ (8, P.Keypad8) ∷ (9, P.Keypad9)
    ∷ []

-- the function keys that have a place: F1 to F20
abbrev pub functions : List (ℕ × PhysKeyCode)
functions =
    (1, P.F1) ∷ (2, P.F2) ∷ (3, P.F3) ∷ (4, P.F4) ∷ (5, P.F5)
    ∷ (6, P.F6) ∷ (7, P.F7) ∷ (8, P.F8) ∷ (9, P.F9) ∷ (10, P.F10)
    ∷ (11, P.F11) ∷ (12, P.F12) ∷ (13, P.F13) ∷ (14, P.F14) ∷ (15, P.F15)
    ∷ (16, P.F16) ∷ (17, P.F17) ∷ (18, P.F18) ∷ (19, P.F19) ∷ (20, P.F20)
    ∷ []

-- the place of each key
abbrev pub phys_of : KeyCode → Option PhysKeyCode
phys_of (K.Char c) = beside chars c
phys_of (K.Composed x) = None
phys_of (K.RawCode x) = None
phys_of (K.Physical p) = Some p
phys_of K.Hyper = None
phys_of K.Super = None
phys_of K.Meta = None
phys_of K.Cancel = None
phys_of K.Clear = Some P.KeypadClear
phys_of K.Shift = Some P.LeftShift
phys_of K.LeftShift = Some P.LeftShift
phys_of K.RightShift = Some P.RightShift
phys_of K.Control = Some P.LeftControl
phys_of K.LeftControl = Some P.LeftControl
phys_of K.RightControl = Some P.RightControl
phys_of K.Alt = Some P.LeftAlt
phys_of K.LeftAlt = Some P.LeftAlt
phys_of K.RightAlt = Some P.RightAlt
phys_of K.Pause = None
phys_of K.CapsLock = Some P.CapsLock
phys_of K.VoidSymbol = None
phys_of K.PageUp = Some P.PageUp
phys_of K.PageDown = Some P.PageDown
phys_of K.End = Some P.End
phys_of K.Home = Some P.Home
phys_of K.LeftArrow = Some P.LeftArrow
phys_of K.RightArrow = Some P.RightArrow
phys_of K.UpArrow = Some P.UpArrow
phys_of K.DownArrow = Some P.DownArrow
phys_of K.Select = None
phys_of K.Print = None
phys_of K.Execute = None
phys_of K.PrintScreen = None
phys_of K.Insert = Some P.Insert
phys_of K.Help = Some P.Help
phys_of K.LeftWindows = Some P.LeftWindows
phys_of K.RightWindows = Some P.RightWindows
phys_of K.Applications = None
phys_of K.Sleep = None
phys_of (K.Numpad n) = beside digits n
phys_of K.Multiply = Some P.KeypadMultiply
phys_of K.Add = Some P.KeypadAdd
phys_of K.Separator = None
phys_of K.Subtract = Some P.KeypadSubtract
phys_of K.Decimal = Some P.KeypadDecimal
phys_of K.Divide = Some P.KeypadDivide
phys_of (K.Function n) = beside functions n
phys_of K.NumLock = Some P.NumLock
phys_of K.ScrollLock = None
phys_of K.Copy = None
phys_of K.Cut = None
phys_of K.Paste = None
phys_of K.BrowserBack = None
phys_of K.BrowserForward = None
phys_of K.BrowserRefresh = None
phys_of K.BrowserStop = None
phys_of K.BrowserSearch = None
phys_of K.BrowserFavorites = None
phys_of K.BrowserHome = None
phys_of K.VolumeMute = Some P.VolumeMute
phys_of K.VolumeDown = Some P.VolumeDown
phys_of K.VolumeUp = Some P.VolumeUp
phys_of K.MediaNextTrack = None
phys_of K.MediaPrevTrack = None
phys_of K.MediaStop = None
phys_of K.MediaPlayPause = None
phys_of K.ApplicationLeftArrow = None
phys_of K.ApplicationRightArrow = None
phys_of K.ApplicationUpArrow = None
phys_of K.ApplicationDownArrow = None
phys_of K.KeyPadHome = None
phys_of K.KeyPadEnd = None
phys_of K.KeyPadPageUp = None
phys_of K.KeyPadPageDown = None
phys_of K.KeyPadBegin = None

-- the modifier keys
abbrev pub modifier_key : KeyCode → Bool
modifier_key (K.Char c) = false
modifier_key (K.Composed x) = false
modifier_key (K.RawCode x) = false
modifier_key (K.Physical p) = false
modifier_key K.Hyper = true
modifier_key K.Super = true
modifier_key K.Meta = true
modifier_key K.Cancel = false
modifier_key K.Clear = false
modifier_key K.Shift = true
modifier_key K.LeftShift = true
modifier_key K.RightShift = true
modifier_key K.Control = true
modifier_key K.LeftControl = true
modifier_key K.RightControl = true
modifier_key K.Alt = true
modifier_key K.LeftAlt = true
modifier_key K.RightAlt = true
modifier_key K.Pause = false
modifier_key K.CapsLock = true
modifier_key K.VoidSymbol = false
modifier_key K.PageUp = false
modifier_key K.PageDown = false
modifier_key K.End = false
modifier_key K.Home = false
modifier_key K.LeftArrow = false
modifier_key K.RightArrow = false
modifier_key K.UpArrow = false
modifier_key K.DownArrow = false
modifier_key K.Select = false
modifier_key K.Print = false
modifier_key K.Execute = false
modifier_key K.PrintScreen = false
modifier_key K.Insert = false
modifier_key K.Help = false
modifier_key K.LeftWindows = true
modifier_key K.RightWindows = true
modifier_key K.Applications = false
modifier_key K.Sleep = false
modifier_key (K.Numpad n) = false
modifier_key K.Multiply = false
modifier_key K.Add = false
modifier_key K.Separator = false
modifier_key K.Subtract = false
modifier_key K.Decimal = false
modifier_key K.Divide = false
modifier_key (K.Function n) = false
modifier_key K.NumLock = false
modifier_key K.ScrollLock = false
modifier_key K.Copy = false
modifier_key K.Cut = false
modifier_key K.Paste = false
modifier_key K.BrowserBack = false
modifier_key K.BrowserForward = false
modifier_key K.BrowserRefresh = false
modifier_key K.BrowserStop = false
modifier_key K.BrowserSearch = false
modifier_key K.BrowserFavorites = false
modifier_key K.BrowserHome = false
modifier_key K.VolumeMute = false
modifier_key K.VolumeDown = false
modifier_key K.VolumeUp = false
modifier_key K.MediaNextTrack = false
modifier_key K.MediaPrevTrack = false
modifier_key K.MediaStop = false
modifier_key K.MediaPlayPause = false
modifier_key K.ApplicationLeftArrow = false
modifier_key K.ApplicationRightArrow = false
modifier_key K.ApplicationUpArrow = false
modifier_key K.ApplicationDownArrow = false
modifier_key K.KeyPadHome = false
modifier_key K.KeyPadEnd = false
modifier_key K.KeyPadPageUp = false
modifier_key K.KeyPadPageDown = false
modifier_key K.KeyPadBegin = false
