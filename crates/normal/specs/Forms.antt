-- The normal forms of a key event.
use Rattle.std.specs.Prelude.{ℕ, Bool, cond, ◌||◌, Some, None, Option, ◌==◌}
use Rattle.std.specs.Option.{option_map, unwrap_or}
use Rattle.std.specs.Char.{is_ascii_alphabetic, to_ascii_uppercase}
use Rattle.input_types.specs.declared.event.KeyEvent.{KeyEvent}
use Rattle.input_types.specs.declared.event.RawKeyEvent.{RawKeyEvent}
use Rattle.input_types.specs.declared.key_code.KeyCode.{KeyCode}
use Rattle.input_types.specs.declared.key_code.KeyCode.TheVariants as K
use Rattle.input_types.specs.declared.modifiers.Modifiers.{Modifiers}
use Rattle.input_types.specs.declared.phys_key_code.PhysKeyCode.TheVariants as P
use Rattle.input_types.specs.Bits.{holds, without, shift, ctrl}
use Rattle.input_types.specs.Controls.{from_control}
use Rattle.names.specs.Variants.{place_number}

-- the character of a key
abbrev pub char_of : KeyCode → Option ℕ
char_of (K.Char c) = Some c
char_of (K.Composed x) = None
char_of (K.RawCode x) = None
char_of (K.Physical x) = None
char_of K.Hyper = None
char_of K.Super = None
char_of K.Meta = None
char_of K.Cancel = None
char_of K.Clear = None
char_of K.Shift = None
char_of K.LeftShift = None
char_of K.RightShift = None
char_of K.Control = None
char_of K.LeftControl = None
char_of K.RightControl = None
char_of K.Alt = None
char_of K.LeftAlt = None
char_of K.RightAlt = None
char_of K.Pause = None
char_of K.CapsLock = None
char_of K.VoidSymbol = None
char_of K.PageUp = None
char_of K.PageDown = None
char_of K.End = None
char_of K.Home = None
char_of K.LeftArrow = None
char_of K.RightArrow = None
char_of K.UpArrow = None
char_of K.DownArrow = None
char_of K.Select = None
char_of K.Print = None
char_of K.Execute = None
char_of K.PrintScreen = None
char_of K.Insert = None
char_of K.Help = None
char_of K.LeftWindows = None
char_of K.RightWindows = None
char_of K.Applications = None
char_of K.Sleep = None
char_of (K.Numpad x) = None
char_of K.Multiply = None
char_of K.Add = None
char_of K.Separator = None
char_of K.Subtract = None
char_of K.Decimal = None
char_of K.Divide = None
char_of (K.Function x) = None
char_of K.NumLock = None
char_of K.ScrollLock = None
char_of K.Copy = None
char_of K.Cut = None
char_of K.Paste = None
char_of K.BrowserBack = None
char_of K.BrowserForward = None
char_of K.BrowserRefresh = None
char_of K.BrowserStop = None
char_of K.BrowserSearch = None
char_of K.BrowserFavorites = None
char_of K.BrowserHome = None
char_of K.VolumeMute = None
char_of K.VolumeDown = None
char_of K.VolumeUp = None
char_of K.MediaNextTrack = None
char_of K.MediaPrevTrack = None
char_of K.MediaStop = None
char_of K.MediaPlayPause = None
char_of K.ApplicationLeftArrow = None
char_of K.ApplicationRightArrow = None
char_of K.ApplicationUpArrow = None
char_of K.ApplicationDownArrow = None
char_of K.KeyPadHome = None
char_of K.KeyPadEnd = None
char_of K.KeyPadPageUp = None
char_of K.KeyPadPageDown = None
char_of K.KeyPadBegin = None

abbrev no_shift : Modifiers → Modifiers
no_shift m = record { bits = without m.bits shift }

-- a letter under Shift is its capital with no Shift
abbrev pub shifted : KeyCode → Modifiers → KeyCode × Modifiers
shifted k m = cond (holds m.bits shift) (unwrap_or (option_map (λ c. cond (is_ascii_alphabetic c) (K.Char (to_ascii_uppercase c), no_shift m) (k, m)) (char_of k)) (k, m)) (k, m)

-- a control code under Ctrl is the character that it comes from
abbrev pub uncontrolled : KeyCode → Modifiers → KeyCode
uncontrolled k m = cond (holds m.bits ctrl) (unwrap_or (option_map (λ c. unwrap_or (option_map K.Char (from_control c)) k) (char_of k)) k) k

-- a number for each key: its place's for one that is named by its place, and from 200 on for the others
abbrev pub number : KeyCode → ℕ
number (K.Char x) = 200
number (K.Composed x) = 201
number (K.RawCode x) = 202
number (K.Physical p) = place_number p
number K.Hyper = 204
number K.Super = 205
number K.Meta = 206
number K.Cancel = 207
number K.Clear = 208
number K.Shift = 209
number K.LeftShift = 210
number K.RightShift = 211
number K.Control = 212
number K.LeftControl = 213
number K.RightControl = 214
number K.Alt = 215
number K.LeftAlt = 216
number K.RightAlt = 217
number K.Pause = 218
number K.CapsLock = 219
number K.VoidSymbol = 220
number K.PageUp = 221
number K.PageDown = 222
number K.End = 223
number K.Home = 224
number K.LeftArrow = 225
number K.RightArrow = 226
number K.UpArrow = 227
number K.DownArrow = 228
number K.Select = 229
number K.Print = 230
number K.Execute = 231
number K.PrintScreen = 232
number K.Insert = 233
number K.Help = 234
number K.LeftWindows = 235
number K.RightWindows = 236
number K.Applications = 237
number K.Sleep = 238
number (K.Numpad x) = 239
number K.Multiply = 240
number K.Add = 241
number K.Separator = 242
number K.Subtract = 243
number K.Decimal = 244
number K.Divide = 245
number (K.Function x) = 246
number K.NumLock = 247
number K.ScrollLock = 248
number K.Copy = 249
number K.Cut = 250
number K.Paste = 251
number K.BrowserBack = 252
number K.BrowserForward = 253
number K.BrowserRefresh = 254
number K.BrowserStop = 255
number K.BrowserSearch = 256
number K.BrowserFavorites = 257
number K.BrowserHome = 258
number K.VolumeMute = 259
number K.VolumeDown = 260
number K.VolumeUp = 261
number K.MediaNextTrack = 262
number K.MediaPrevTrack = 263
number K.MediaStop = 264
number K.MediaPlayPause = 265
number K.ApplicationLeftArrow = 266
number K.ApplicationRightArrow = 267
number K.ApplicationUpArrow = 268
number K.ApplicationDownArrow = 269
number K.KeyPadHome = 270
number K.KeyPadEnd = 271
number K.KeyPadPageUp = 272
number K.KeyPadPageDown = 273
number K.KeyPadBegin = 274

abbrev is : KeyCode → KeyCode → Bool
is a b = number a == number b

-- a plain Control, Alt or Shift is the left or the right one, where the raw key says which
abbrev pub surfaced_key : KeyCode → KeyCode → KeyCode
surfaced_key own raw =
    cond (is own K.Control)
    (cond (is raw K.LeftControl || is raw (K.Physical P.LeftControl)) K.LeftControl
    (cond (is raw K.RightControl || is raw (K.Physical P.RightControl)) K.RightControl own))
    (cond (is own K.Alt)
    (cond (is raw K.LeftAlt || is raw (K.Physical P.LeftAlt)) K.LeftAlt
    (cond (is raw K.RightAlt || is raw (K.Physical P.RightAlt)) K.RightAlt own))
    (cond (is own K.Shift)
    (cond (is raw K.LeftShift || is raw (K.Physical P.LeftShift)) K.LeftShift
    (cond (is raw K.RightShift || is raw (K.Physical P.RightShift)) K.RightShift own))
    own))

abbrev by_raw : KeyCode → Option RawKeyEvent → KeyCode
by_raw own None = own
by_raw own (Some raw) = surfaced_key own raw.key

-- the event with another key and other modifiers of its own
abbrev pub with : KeyEvent → KeyCode × Modifiers → KeyEvent
with e p = record { key = p.0; modifiers = p.1; leds = e.leds; repeat_count = e.repeat_count; key_is_down = e.key_is_down; raw = e.raw }

abbrev pub shift_form : KeyEvent → KeyEvent
shift_form e = with e (shifted e.key e.modifiers)

abbrev pub ctrl_form : KeyEvent → KeyEvent
ctrl_form e = with e (uncontrolled e.key e.modifiers, e.modifiers)

abbrev pub surfaced : KeyEvent → KeyEvent
surfaced e = with e (by_raw e.key e.raw, e.modifiers)
