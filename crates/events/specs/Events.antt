-- An event with nothing borrowed: what the rules can see of it.
use Rattle.std.specs.Prelude.{ℕ, ◌≤◌, Bool, cond, length, Some, None, IsUtf8, Option}
use Rattle.std.specs.Option.{option_map}
use Rattle.std.specs.Str.{chars}
use Rattle.input_types.specs.Bits.{sum_of}
use Rattle.input_types.specs.declared.key_code.KeyCode.{KeyCode}
use Rattle.input_types.specs.declared.phys_key_code.PhysKeyCode.{PhysKeyCode}
use Rattle.input_types.specs.declared.event.RawKeyEvent.{RawKeyEvent}
use Rattle.input_types.specs.declared.event.KeyEvent.{KeyEvent}
use Rattle.report.specs.declared.ending.Direction.{Direction}
use Rattle.report.specs.declared.ending.Direction.TheVariants.{Press, Release}
use Rattle.events.specs.Kinds.{PlainKind, kind_of, character, composed, numpad, function, numbered, lettered, other}
use Rattle.input_types.specs.KeyMaps.{phys_of}
use Rattle.input_types.specs.Codes.{by_key, first, place}

-- A key: its kind, its place on a US keyboard, and its number among the functional keys.
pub record PlainKey : Type 0 where
  pub kind : PlainKind
  pub place : Option PhysKeyCode
  pub code : Option ℕ

pub record PlainRaw : Type 0 where
  pub key : PlainKey
  pub modifiers : ℕ
  pub leds : ℕ
  pub phys : Option PhysKeyCode

pub record PlainEvent : Type 0 where
  pub key : PlainKey
  pub modifiers : ℕ
  pub leds : ℕ
  pub down : Bool
  pub raw : Option PlainRaw

abbrev pub plain_key : KeyCode → PlainKey
plain_key k = record { kind = kind_of k; place = phys_of k; code = by_key k }

abbrev pub plain_raw : RawKeyEvent → PlainRaw
plain_raw r = record { key = plain_key r.key; modifiers = r.modifiers.bits; leds = r.leds.bits; phys = r.phys_code }

abbrev pub plain_event : KeyEvent → PlainEvent
plain_event e = record { key = plain_key e.key; modifiers = e.modifiers.bits; leds = e.leds.bits; down = e.key_is_down; raw = option_map plain_raw e.raw }

-- The reported modifiers are the raw event's, or the event's own if there is no raw one.
abbrev pub mods_or : ℕ → Option PlainRaw → ℕ
mods_or own None = own
mods_or own (Some r) = r.modifiers

abbrev pub reported : PlainEvent → ℕ
reported e = mods_or e.modifiers e.raw

-- The modifier sum counts the reported modifiers and the event's own lights.
abbrev pub sum : PlainEvent → ℕ
sum e = sum_of (reported e) e.leds

abbrev pub direction : PlainEvent → Direction
direction e = cond e.down Press Release

-- The physical key that the raw event names.
abbrev pub phys_raw : Option PlainRaw → Option PhysKeyCode
phys_raw None = None
phys_raw (Some r) = r.phys

abbrev pub first_key : Option PhysKeyCode → Option PhysKeyCode → Option PhysKeyCode
first_key None o = o
first_key (Some p) o = Some p

-- The guessed physical key is the one that the raw event names, or else the place of the event's key.
abbrev pub guess : PlainEvent → Option PhysKeyCode
guess e = first_key (phys_raw e.raw) e.key.place

-- The number of the raw event among the functional keys, by its key and else by its place.
abbrev pub code_raw : Option PlainRaw → Option ℕ
code_raw None = None
code_raw (Some r) = first r.key.code (place r.phys)

-- A key whose text can be told: composed text is UTF-8 of at most 32 characters, and a keypad's digit is one.
abbrev pub Fit : PlainKind → Type 0
Fit (character c) = Unit {0}
Fit (composed bs) = IsUtf8 bs × (length (chars bs) ≤ 32)
Fit (numpad n) = n ≤ 9
Fit (function n) = Unit {0}
Fit (numbered n) = Unit {0}
Fit (lettered l) = Unit {0}
Fit other = Unit {0}
