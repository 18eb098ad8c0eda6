-- The keys and the places by their numbers: the order of the variants.
use Rattle.std.specs.Prelude.{ℕ, List, [], ◌∷◌}
use Rattle.input_types.specs.declared.key_code.KeyCode.{KeyCode}
use Rattle.input_types.specs.declared.key_code.KeyCode.TheVariants as K
use Rattle.input_types.specs.declared.phys_key_code.PhysKeyCode.{PhysKeyCode}
use Rattle.input_types.specs.declared.phys_key_code.PhysKeyCode.TheVariants as P

-- the places of a keyboard
abbrev pub places : List (ℕ × PhysKeyCode)
places =
    (0, P.A) ∷ (1, P.B) ∷ (2, P.Backslash) ∷ (3, P.C) ∷ (4, P.CapsLock) ∷ (5, P.Comma) ∷ (6, P.D) ∷ (7, P.Backspace)
    ∷ (8, P.DownArrow) ∷ (9, P.E) ∷ (10, P.End) ∷ (11, P.Equal) ∷ (12, P.Escape) ∷ (13, P.F) ∷ (14, P.F1) ∷ (15, P.F10)
    ∷ (16, P.F11) ∷ (17, P.F12) ∷ (18, P.F13) ∷ (19, P.F14) ∷ (20, P.F15) ∷ (21, P.F16) ∷ (22, P.F17) ∷ (23, P.F18)
    ∷ (24, P.F19) ∷ (25, P.F2) ∷ (26, P.F20) ∷ (27, P.F21) ∷ (28, P.F22) ∷ (29, P.F23) ∷ (30, P.F24) ∷ (31, P.F3)
    ∷ (32, P.F4) ∷ (33, P.F5) ∷ (34, P.F6) ∷ (35, P.F7) ∷ (36, P.F8) ∷ (37, P.F9) ∷ (38, P.Delete) ∷ (39, P.Function)
    ∷ (40, P.G) ∷ (41, P.Grave) ∷ (42, P.H) ∷ (43, P.Help) ∷ (44, P.Home) ∷ (45, P.I) ∷ (46, P.Insert) ∷ (47, P.J)
    ∷ (48, P.K) ∷ (49, P.K0) ∷ (50, P.K1) ∷ (51, P.K2) ∷ (52, P.K3) ∷ (53, P.K4) ∷ (54, P.K5) ∷ (55, P.K6)
    ∷ (56, P.K7) ∷ (57, P.K8) ∷ (58, P.K9) ∷ (59, P.Keypad0) ∷ (60, P.Keypad1) ∷ (61, P.Keypad2) ∷ (62, P.Keypad3) ∷ (63, P.Keypad4)
    ∷ (64, P.Keypad5) ∷ (65, P.Keypad6) ∷ (66, P.Keypad7) ∷ (67, P.Keypad8) ∷ (68, P.Keypad9) ∷ (69, P.KeypadClear) ∷ (70, P.KeypadDecimal) ∷ (71, P.KeypadDelete)
    ∷ (72, P.KeypadDivide) ∷ (73, P.KeypadEnter) ∷ (74, P.KeypadEquals) ∷ (75, P.KeypadSubtract) ∷ (76, P.KeypadMultiply) ∷ (77, P.KeypadAdd) ∷ (78, P.L) ∷ (79, P.LeftAlt)
    ∷ (80, P.LeftArrow) ∷ (81, P.LeftBracket) ∷ (82, P.LeftControl) ∷ (83, P.LeftShift) ∷ (84, P.LeftWindows) ∷ (85, P.M) ∷ (86, P.Minus) ∷ (87, P.VolumeMute)
    ∷ (88, P.N) ∷ (89, P.NumLock) ∷ (90, P.O) ∷ (91, P.P) ∷ (92, P.PageDown) ∷ (93, P.PageUp) ∷ (94, P.Period) ∷ (95, P.Q)
    ∷ (96, P.Quote) ∷ (97, P.R) ∷ (98, P.Return) ∷ (99, P.RightAlt) ∷ (100, P.RightArrow) ∷ (101, P.RightBracket) ∷ (102, P.RightControl) ∷ (103, P.RightShift)
    ∷ (104, P.RightWindows) ∷ (105, P.S) ∷ (106, P.Semicolon) ∷ (107, P.Slash) ∷ (108, P.Space) ∷ (109, P.T) ∷ (110, P.Tab) ∷ (111, P.U)
    ∷ (112, P.UpArrow) ∷ (113, P.V) ∷ (114, P.VolumeDown) ∷ (115, P.VolumeUp) ∷ (116, P.W) ∷ (117, P.X) ∷ (118, P.Y) ∷ (119, P.Z)
    ∷ []

-- the keys that hold nothing
abbrev pub keys : List (ℕ × KeyCode)
keys =
    (4, K.Hyper) ∷ (5, K.Super) ∷ (6, K.Meta) ∷ (7, K.Cancel) ∷ (8, K.Clear) ∷ (9, K.Shift) ∷ (10, K.LeftShift) ∷ (11, K.RightShift)
    ∷ (12, K.Control) ∷ (13, K.LeftControl) ∷ (14, K.RightControl) ∷ (15, K.Alt) ∷ (16, K.LeftAlt) ∷ (17, K.RightAlt) ∷ (18, K.Pause) ∷ (19, K.CapsLock)
    ∷ (20, K.VoidSymbol) ∷ (21, K.PageUp) ∷ (22, K.PageDown) ∷ (23, K.End) ∷ (24, K.Home) ∷ (25, K.LeftArrow) ∷ (26, K.RightArrow) ∷ (27, K.UpArrow)
    ∷ (28, K.DownArrow) ∷ (29, K.Select) ∷ (30, K.Print) ∷ (31, K.Execute) ∷ (32, K.PrintScreen) ∷ (33, K.Insert) ∷ (34, K.Help) ∷ (35, K.LeftWindows)
    ∷ (36, K.RightWindows) ∷ (37, K.Applications) ∷ (38, K.Sleep) ∷ (40, K.Multiply) ∷ (41, K.Add) ∷ (42, K.Separator) ∷ (43, K.Subtract) ∷ (44, K.Decimal)
    ∷ (45, K.Divide) ∷ (47, K.NumLock) ∷ (48, K.ScrollLock) ∷ (49, K.Copy) ∷ (50, K.Cut) ∷ (51, K.Paste) ∷ (52, K.BrowserBack) ∷ (53, K.BrowserForward)
    ∷ (54, K.BrowserRefresh) ∷ (55, K.BrowserStop) ∷ (56, K.BrowserSearch) ∷ (57, K.BrowserFavorites) ∷ (58, K.BrowserHome) ∷ (59, K.VolumeMute) ∷ (60, K.VolumeDown) ∷ (61, K.VolumeUp)
    ∷ (62, K.MediaNextTrack) ∷ (63, K.MediaPrevTrack) ∷ (64, K.MediaStop) ∷ (65, K.MediaPlayPause) ∷ (66, K.ApplicationLeftArrow) ∷ (67, K.ApplicationRightArrow) ∷ (68, K.ApplicationUpArrow) ∷ (69, K.ApplicationDownArrow)
    ∷ (70, K.KeyPadHome) ∷ (71, K.KeyPadEnd) ∷ (72, K.KeyPadPageUp) ∷ (73, K.KeyPadPageDown) ∷ (74, K.KeyPadBegin)
    ∷ []
