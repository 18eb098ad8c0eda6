-- A key with a number or a final of its own is known by its kind.
use Rattle.std.proofs.Common.{◌≡◌, cond, eqb, sym, refl, ap, ◌∙◌}
use Rattle.input_types.specs.declared.key_code.KeyCode.{KeyCode}
use Rattle.input_types.specs.declared.key_code.KeyCode.TheVariants as K
use Rattle.report.specs.declared.ending.Last.{Last}
use Rattle.report.specs.declared.ending.Last.TheVariants as L
use Rattle.events.specs.Kinds.{PlainKind, kind_of, character, composed, numpad, function, numbered, lettered, other}
use Rattle.events.specs.Events.{plain_event}
use Rattle.rules.specs.Laws.{Fixed, FixedTell, KeysApart}
use Rattle.rules.proofs.Inverse.{key_of, fixed_reads, fixed_tells}

abbrev by_last : Last → KeyCode
by_last L.U = K.VoidSymbol
by_last L.Tilde = K.VoidSymbol
by_last L.Up = K.UpArrow
by_last L.Down = K.DownArrow
by_last L.Right = K.RightArrow
by_last L.Left = K.LeftArrow
by_last L.Begin = K.VoidSymbol
by_last L.End = K.End
by_last L.Home = K.Home

-- the key of a kind
abbrev key_for : PlainKind → KeyCode
key_for (character c) = K.Char 127
key_for (composed bs) = K.VoidSymbol
key_for (numpad n) = K.VoidSymbol
key_for (function n) = K.Function n
key_for (numbered n) = cond (eqb n 2) K.Insert (cond (eqb n 5) K.PageUp K.PageDown)
key_for (lettered l) = by_last l
key_for other = K.VoidSymbol

back : (k : KeyCode) → Fixed (kind_of k) → key_for (kind_of k) ≡ k
back (K.Char c) h = ap (λ x. K.Char x) (sym h)
back (K.Composed bs) h = absurd h
back (K.RawCode n) h = absurd h
back (K.Physical p) h = absurd h
back K.Hyper h = absurd h
back K.Super h = absurd h
back K.Meta h = absurd h
back K.Cancel h = absurd h
back K.Clear h = absurd h
back K.Shift h = absurd h
back K.LeftShift h = absurd h
back K.RightShift h = absurd h
back K.Control h = absurd h
back K.LeftControl h = absurd h
back K.RightControl h = absurd h
back K.Alt h = absurd h
back K.LeftAlt h = absurd h
back K.RightAlt h = absurd h
back K.Pause h = absurd h
back K.CapsLock h = absurd h
back K.VoidSymbol h = absurd h
back K.PageUp h = refl
back K.PageDown h = refl
back K.End h = refl
back K.Home h = refl
back K.LeftArrow h = refl
back K.RightArrow h = refl
back K.UpArrow h = refl
back K.DownArrow h = refl
back K.Select h = absurd h
back K.Print h = absurd h
back K.Execute h = absurd h
back K.PrintScreen h = absurd h
back K.Insert h = refl
back K.Help h = absurd h
back K.LeftWindows h = absurd h
back K.RightWindows h = absurd h
back K.Applications h = absurd h
back K.Sleep h = absurd h
back (K.Numpad n) h = absurd h
back K.Multiply h = absurd h
back K.Add h = absurd h
back K.Separator h = absurd h
back K.Subtract h = absurd h
back K.Decimal h = absurd h
back K.Divide h = absurd h
back (K.Function n) h = refl
back K.NumLock h = absurd h
back K.ScrollLock h = absurd h
back K.Copy h = absurd h
back K.Cut h = absurd h
back K.Paste h = absurd h
back K.BrowserBack h = absurd h
back K.BrowserForward h = absurd h
back K.BrowserRefresh h = absurd h
back K.BrowserStop h = absurd h
back K.BrowserSearch h = absurd h
back K.BrowserFavorites h = absurd h
back K.BrowserHome h = absurd h
back K.VolumeMute h = absurd h
back K.VolumeDown h = absurd h
back K.VolumeUp h = absurd h
back K.MediaNextTrack h = absurd h
back K.MediaPrevTrack h = absurd h
back K.MediaStop h = absurd h
back K.MediaPlayPause h = absurd h
back K.ApplicationLeftArrow h = absurd h
back K.ApplicationRightArrow h = absurd h
back K.ApplicationUpArrow h = absurd h
back K.ApplicationDownArrow h = absurd h
back K.KeyPadHome h = absurd h
back K.KeyPadEnd h = absurd h
back K.KeyPadPageUp h = absurd h
back K.KeyPadPageDown h = absurd h
back K.KeyPadBegin h = absurd h

pub fixed_tell : FixedTell
fixed_tell base flags e m h t = fixed_tells base flags (plain_event e) h.0 h.1 m t

pub keys_apart : KeysApart
keys_apart base flags flags' e e' f f' h h' t t' n l d s =
    let p = fixed_reads base flags (plain_event e) h.0 h.1 f t in
    let q = fixed_reads base flags' (plain_event e') h'.0 h'.1 f' t' in
    let k : kind_of e.key ≡ kind_of e'.key = sym p.0 ∙ ap (λ i. key_of i f.last) n ∙ ap (key_of f'.number) l ∙ q.0 in
    (sym (back e.key h.0) ∙ ap key_for k ∙ back e'.key h'.0, sym p.1 ∙ d ∙ q.1, sym p.2 ∙ s ∙ q.2)
