-- The laws of what is told.
use Rattle.std.specs.Prelude.{◌≡◌, ℕ, ◌≤◌, true, ◌⊎◌, Some, None, Option, ◌≢◌}
use Rattle.report.specs.declared.ending.Last.{Last}
use Rattle.report.specs.declared.ending.Last.TheVariants.{U, Tilde, Up, Down, Right, Left, Begin, End, Home}
use Rattle.report.specs.Meanings.{Meaning, Fields, Clear, text, old, answer, sequence}
use Rattle.input_types.specs.Bits.{holds, disambiguate, num_lock}
use Rattle.input_types.specs.declared.event.KeyEvent.{KeyEvent}
use Rattle.texts.specs.Texts.{allowed}
use Rattle.events.specs.Kinds.{PlainKind, kind_of, character, composed, numpad, function, numbered, lettered, other}
use Rattle.events.specs.Events.{PlainEvent, plain_event, sum, direction, guess}
use Rattle.events.specs.Faults.{faultless}
use Rattle.rules.specs.Rules.{tells, pad_guess}

-- P holds of what is told, if anything is
abbrev pub IfTold : (Meaning → Type 0) → Option Meaning → Type 0
IfTold P None = Unit {0}
IfTold P (Some m) = P m

-- Where escape codes are disambiguated, what is told is clear.
abbrev pub ToldClear : Type 0
ToldClear = (base : ℕ → ℕ) (flags : ℕ) (e : PlainEvent) → holds flags disambiguate ≡ true → IfTold Clear (tells base flags e)

-- no key of the keypad is guessed
abbrev pub OffKeypad : PlainEvent → Type 0
OffKeypad e = pad_guess (holds e.leds num_lock) (guess e) ≡ None

-- A character key is a character other than Delete, off the keypad.
abbrev pub CharacterKey : PlainEvent → ℕ → Type 0
CharacterKey e c = (e.key.kind ≡ character c) × (c ≢ 127) × OffKeypad e

-- a layout's two laws
pub record Lawful (base : ℕ → ℕ) : Type 0 where
  pub settled : (c : ℕ) → base (base c) ≡ base c
  pub kept : (c : ℕ) → allowed c ≡ true → allowed (base c) ≡ true

-- the number of a sequence is one that the layout leaves alone, and no code that stands for another key
abbrev pub Own : (ℕ → ℕ) → Meaning → Type 0
Own base (text c) = Unit {0}
Own base (old c) = Unit {0}
Own base (answer n) = Unit {0}
Own base (sequence f) = (base f.number ≡ f.number) × (allowed f.number ≡ true)

-- A character key tells its own number.
abbrev pub OwnNumber : Type 0
OwnNumber = (base : ℕ → ℕ) (flags : ℕ) (e : PlainEvent) (c : ℕ) → Lawful base → faultless e ≡ true → CharacterKey e c → IfTold (Own base) (tells base flags e)

-- the final of an arrow, Home or End
abbrev pub Arrow : Last → Type 0
Arrow U = ⊥
Arrow Tilde = ⊥
Arrow Up = Unit {0}
Arrow Down = Unit {0}
Arrow Right = Unit {0}
Arrow Left = Unit {0}
Arrow Begin = ⊥
Arrow End = Unit {0}
Arrow Home = Unit {0}

-- Insert, Delete, PageUp, PageDown, the arrows, Home, End, and the first 24 function keys
abbrev pub Fixed : PlainKind → Type 0
Fixed (character c) = c ≡ 127
Fixed (composed bs) = ⊥
Fixed (numpad n) = ⊥
Fixed (function n) = (1 ≤ n) × (n ≤ 24)
Fixed (numbered n) = (n ≡ 2) ⊎ ((n ≡ 5) ⊎ (n ≡ 6))
Fixed (lettered l) = Arrow l
Fixed other = ⊥

-- such a key, off the keypad
abbrev pub FixedKey : KeyEvent → Type 0
FixedKey e = Fixed (kind_of e.key) × OffKeypad (plain_event e)

-- such a key tells a sequence, with its direction and its modifier sum
abbrev pub FixedTell : Type 0
FixedTell =
    (base : ℕ → ℕ) (flags : ℕ) (e : KeyEvent) (m : Meaning) → FixedKey e → tells base flags (plain_event e) ≡ Some m
    → (f : Fields) × (m ≡ sequence f) × (f.direction ≡ direction (plain_event e)) × (f.sum ≡ sum (plain_event e))

-- Two such sequences with one number and final, one direction and one sum are of one key, in one direction and with one sum.
abbrev pub KeysApart : Type 0
KeysApart =
    (base : ℕ → ℕ) (flags flags' : ℕ) (e e' : KeyEvent) (f f' : Fields) → FixedKey e → FixedKey e'
    → tells base flags (plain_event e) ≡ Some (sequence f) → tells base flags' (plain_event e') ≡ Some (sequence f')
    → f.number ≡ f'.number → f.last ≡ f'.last → f.direction ≡ f'.direction → f.sum ≡ f'.sum
    → (e.key ≡ e'.key) × (direction (plain_event e) ≡ direction (plain_event e')) × (sum (plain_event e) ≡ sum (plain_event e'))
