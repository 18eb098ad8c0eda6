-- The names of the keys.
use Rattle.std.specs.Prelude.{◌≡◌, ℕ, List, [], ◌∷◌, ◌++◌, codes}
use Rattle.std.specs.Option.{unwrap_or}
use Rattle.std.specs.List.{AllByRecursion}
use Rattle.tables.specs.Tables.{name_for}
use Rattle.input_types.specs.declared.key_code.KeyCode.{KeyCode}
use Rattle.input_types.specs.declared.key_code.KeyCode.TheVariants as K
use Rattle.names.specs.Variants.{key_number}

-- the keys whose own names can be read
unfoldable pub plain_keys : List (List ℕ × KeyCode)
plain_keys =
    (codes "Hyper", K.Hyper)
    ∷ (codes "Super", K.Super)
    ∷ (codes "Meta", K.Meta)
    ∷ (codes "Cancel", K.Cancel)
    ∷ (codes "Clear", K.Clear)
    ∷ (codes "Shift", K.Shift)
    ∷ (codes "LeftShift", K.LeftShift)
    ∷ (codes "RightShift", K.RightShift)
    ∷ (codes "Control", K.Control)
    ∷ (codes "LeftControl", K.LeftControl)
    ∷ (codes "RightControl", K.RightControl)
    ∷ (codes "Alt", K.Alt)
    ∷ (codes "LeftAlt", K.LeftAlt)
    ∷ (codes "RightAlt", K.RightAlt)
    ∷ (codes "Pause", K.Pause)
    ∷ (codes "CapsLock", K.CapsLock)
    ∷ (codes "VoidSymbol", K.VoidSymbol)
    ∷ (codes "PageUp", K.PageUp)
    ∷ (codes "PageDown", K.PageDown)
    ∷ (codes "End", K.End)
    ∷ (codes "Home", K.Home)
    ∷ (codes "LeftArrow", K.LeftArrow)
    ∷ (codes "RightArrow", K.RightArrow)
    ∷ (codes "UpArrow", K.UpArrow)
    ∷ (codes "DownArrow", K.DownArrow)
    ∷ (codes "Select", K.Select)
    ∷ (codes "Print", K.Print)
    ∷ (codes "Execute", K.Execute)
    ∷ (codes "PrintScreen", K.PrintScreen)
    ∷ (codes "Insert", K.Insert)
    ∷ (codes "Help", K.Help)
    ∷ (codes "LeftWindows", K.LeftWindows)
    ∷ (codes "RightWindows", K.RightWindows)
    ∷ (codes "Applications", K.Applications)
    ∷ (codes "Sleep", K.Sleep)
    ∷ (codes "Multiply", K.Multiply)
    ∷ (codes "Add", K.Add)
    ∷ (codes "Separator", K.Separator)
    ∷ (codes "Subtract", K.Subtract)
    ∷ (codes "Decimal", K.Decimal)
    ∷ (codes "Divide", K.Divide)
    ∷ (codes "NumLock", K.NumLock)
    ∷ (codes "ScrollLock", K.ScrollLock)
    ∷ (codes "Copy", K.Copy)
    ∷ (codes "Cut", K.Cut)
    ∷ (codes "Paste", K.Paste)
    ∷ (codes "BrowserBack", K.BrowserBack)
    ∷ (codes "BrowserForward", K.BrowserForward)
    ∷ (codes "BrowserRefresh", K.BrowserRefresh)
    ∷ (codes "BrowserStop", K.BrowserStop)
    ∷ (codes "BrowserSearch", K.BrowserSearch)
    ∷ (codes "BrowserFavorites", K.BrowserFavorites)
    ∷ (codes "BrowserHome", K.BrowserHome)
    ∷ (codes "VolumeMute", K.VolumeMute)
    ∷ (codes "VolumeDown", K.VolumeDown)
    ∷ (codes "VolumeUp", K.VolumeUp)
    ∷ (codes "MediaNextTrack", K.MediaNextTrack)
    ∷ (codes "MediaPrevTrack", K.MediaPrevTrack)
    ∷ (codes "MediaStop", K.MediaStop)
    ∷ (codes "MediaPlayPause", K.MediaPlayPause)
    ∷ (codes "ApplicationLeftArrow", K.ApplicationLeftArrow)
    ∷ (codes "ApplicationRightArrow", K.ApplicationRightArrow)
    ∷ (codes "ApplicationUpArrow", K.ApplicationUpArrow)
    ∷ (codes "ApplicationDownArrow", K.ApplicationDownArrow)
    ∷ []

-- the characters that have names
unfoldable pub named_chars : List (List ℕ × KeyCode)
named_chars = (codes "Backspace", K.Char 8) ∷ (codes "Tab", K.Char 9) ∷ (codes "Return", K.Char 13) ∷ (codes "Enter", K.Char 13) ∷ (codes "Escape", K.Char 27) ∷ (codes "Delete", K.Char 127) ∷ []

-- the names that can be read
unfoldable pub keys : List (List ℕ × KeyCode)
keys = plain_keys ++ named_chars

-- the names that are only written
unfoldable pub unread_keys : List (List ℕ × KeyCode)
unread_keys = (codes "KeyPadHome", K.KeyPadHome) ∷ (codes "KeyPadEnd", K.KeyPadEnd) ∷ (codes "KeyPadPageUp", K.KeyPadPageUp) ∷ (codes "KeyPadPageDown", K.KeyPadPageDown) ∷ (codes "KeyPadBegin", K.KeyPadBegin) ∷ []

-- the first name that there is for a key
unfoldable pub plain_name : KeyCode → List ℕ
plain_name k = unwrap_or (name_for key_number keys (key_number k)) (unwrap_or (name_for key_number unread_keys (key_number k)) [])

-- each of these keys has its own name
abbrev pub KeysNamed : Type 0
KeysNamed = AllByRecursion (λ e. plain_name e.1 ≡ e.0) (plain_keys ++ unread_keys)
