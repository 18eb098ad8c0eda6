-- What kind of key a key is: all that most rules ask of it.
use Rattle.std.specs.Prelude.{ℕ, List}
use Rattle.input_types.specs.declared.key_code.KeyCode.{KeyCode}
use Rattle.input_types.specs.declared.key_code.KeyCode.TheVariants as K
use Rattle.report.specs.declared.ending.Last.{Last}
use Rattle.report.specs.declared.ending.Last.TheVariants as L
use Rattle.events.specs.declared.kind.Kind.{Kind}
use Rattle.events.specs.declared.kind.Kind.TheVariants as V

-- A character; composed text, as its bytes; a digit of the keypad; a function key; a key of the editing block with its number;
-- an arrow, Home or End with its final; any other.
pub data PlainKind : Type 0 where
  character : ℕ → PlainKind
  composed : List ℕ → PlainKind
  numpad : ℕ → PlainKind
  function : ℕ → PlainKind
  numbered : ℕ → PlainKind
  lettered : Last → PlainKind
  other : PlainKind

abbrev pub plain_kind : Kind → PlainKind
plain_kind (V.Char c) = character c
plain_kind (V.Composed bs) = composed bs.now
plain_kind (V.Numpad n) = numpad n
plain_kind (V.Function n) = function n
plain_kind (V.Numbered n) = numbered n
plain_kind (V.Lettered l) = lettered l
plain_kind V.Other = other

abbrev pub kind_of : KeyCode → PlainKind
kind_of (K.Char c) = character c
kind_of (K.Composed bs) = composed bs.now
kind_of (K.RawCode n) = other
kind_of (K.Physical p) = other
kind_of K.Hyper = other
kind_of K.Super = other
kind_of K.Meta = other
kind_of K.Cancel = other
kind_of K.Clear = other
kind_of K.Shift = other
kind_of K.LeftShift = other
kind_of K.RightShift = other
kind_of K.Control = other
kind_of K.LeftControl = other
kind_of K.RightControl = other
kind_of K.Alt = other
kind_of K.LeftAlt = other
kind_of K.RightAlt = other
kind_of K.Pause = other
kind_of K.CapsLock = other
kind_of K.VoidSymbol = other
kind_of K.PageUp = numbered 5
kind_of K.PageDown = numbered 6
kind_of K.End = lettered L.End
kind_of K.Home = lettered L.Home
kind_of K.LeftArrow = lettered L.Left
kind_of K.RightArrow = lettered L.Right
kind_of K.UpArrow = lettered L.Up
kind_of K.DownArrow = lettered L.Down
kind_of K.Select = other
kind_of K.Print = other
kind_of K.Execute = other
kind_of K.PrintScreen = other
kind_of K.Insert = numbered 2
kind_of K.Help = other
kind_of K.LeftWindows = other
kind_of K.RightWindows = other
kind_of K.Applications = other
kind_of K.Sleep = other
kind_of (K.Numpad n) = numpad n
kind_of K.Multiply = other
kind_of K.Add = other
kind_of K.Separator = other
kind_of K.Subtract = other
kind_of K.Decimal = other
kind_of K.Divide = other
kind_of (K.Function n) = function n
kind_of K.NumLock = other
kind_of K.ScrollLock = other
kind_of K.Copy = other
kind_of K.Cut = other
kind_of K.Paste = other
kind_of K.BrowserBack = other
kind_of K.BrowserForward = other
kind_of K.BrowserRefresh = other
kind_of K.BrowserStop = other
kind_of K.BrowserSearch = other
kind_of K.BrowserFavorites = other
kind_of K.BrowserHome = other
kind_of K.VolumeMute = other
kind_of K.VolumeDown = other
kind_of K.VolumeUp = other
kind_of K.MediaNextTrack = other
kind_of K.MediaPrevTrack = other
kind_of K.MediaStop = other
kind_of K.MediaPlayPause = other
kind_of K.ApplicationLeftArrow = other
kind_of K.ApplicationRightArrow = other
kind_of K.ApplicationUpArrow = other
kind_of K.ApplicationDownArrow = other
kind_of K.KeyPadHome = other
kind_of K.KeyPadEnd = other
kind_of K.KeyPadPageUp = other
kind_of K.KeyPadPageDown = other
kind_of K.KeyPadBegin = other
