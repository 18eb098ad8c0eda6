-- The event that numbers and bytes stand for.
use Rattle.std.specs.Prelude.{ℕ, ◌-◌, min, Bool, true, false, cond, ◌&&◌, ◌||◌, List, Some, None, Option, ◌==◌, nat_lt}
use Rattle.std.specs.Borrow.{Bor}
use Rattle.std.specs.Option.{option_map}
use Rattle.tables.specs.Tables.{beside}
use Rattle.input_types.specs.declared.key_code.KeyCode.{KeyCode}
use Rattle.input_types.specs.declared.key_code.KeyCode.TheVariants as K
use Rattle.input_types.specs.declared.phys_key_code.PhysKeyCode.{PhysKeyCode}
use Rattle.input_types.specs.declared.modifiers.Modifiers.{Modifiers}
use Rattle.input_types.specs.declared.modifiers.KeyboardLedStatus.{KeyboardLedStatus}
use Rattle.input_types.specs.declared.event.RawKeyEvent.{RawKeyEvent}
use Rattle.input_types.specs.declared.event.KeyEvent.{KeyEvent}
use Rattle.event_numbers.specs.declared.events.RawNumbers.{RawNumbers}
use Rattle.event_numbers.specs.declared.events.EventNumbers.{EventNumbers}
use Rattle.event_numbers.specs.Numbered.{places, keys}

-- A character is a Unicode scalar value.
abbrev pub character : ℕ → Option KeyCode
character n = cond (nat_lt n 55296 || (nat_lt 57343 n && nat_lt n 1114112)) (Some (K.Char n)) None

-- The key of a kind, with what it holds: a character, a text, a code, a place or a number. A keypad's or a function
-- key's number above 255 counts as 255, which no key has.
abbrev pub key_by : ℕ → ℕ → Bor (List ℕ) → Option KeyCode
key_by kind value text =
    cond (kind == 0) (character value)
    (cond (kind == 1) (Some (K.Composed text))
    (cond (kind == 2) (Some (K.RawCode value))
    (cond (kind == 3) (option_map K.Physical (beside places value))
    (cond (kind == 39) (Some (K.Numpad (min value 255)))
    (cond (kind == 46) (Some (K.Function (min value 255)))
    (beside keys kind))))))

-- Yes or no.
abbrev pub answer_by : ℕ → Option Bool
answer_by n = cond (n == 0) (Some false) (cond (n == 1) (Some true) None)

-- A place that may be absent: 0, or its number and one.
abbrev pub known_place : ℕ → Option (Option PhysKeyCode)
known_place n = cond (n == 0) (Some None) (option_map Some (beside places (n - 1)))

-- Bits above those that a set has count as all of its bits, of which some have no name.
abbrev pub modifiers_by : ℕ → Modifiers
modifiers_by n = record { bits = min n 65535 }

abbrev pub lights_by : ℕ → KeyboardLedStatus
lights_by n = record { bits = min n 255 }

abbrev pub raw_with : RawNumbers → Bool → Option KeyCode → Option (Option PhysKeyCode) → Option RawKeyEvent
raw_with n down None p = None
raw_with n down (Some k) None = None
raw_with n down (Some k) (Some p) =
    Some (record { key = k; modifiers = modifiers_by n.modifiers; leds = lights_by n.leds; phys_code = p; raw_code = 0; repeat_count = 1; key_is_down = down })

abbrev pub raw_if : Option Bool → Option RawKeyEvent → Option (Option RawKeyEvent)
raw_if None r = None
raw_if (Some false) r = Some None
raw_if (Some true) r = option_map Some r

-- The raw event, if the numbers have one.
abbrev pub raw_by : RawNumbers → Bool → Bor (List ℕ) → Option (Option RawKeyEvent)
raw_by n down text = raw_if (answer_by n.present) (raw_with n down (key_by n.key.kind n.key.value text) (known_place n.place))

abbrev pub event_around : EventNumbers → KeyCode → Bool → Option (Option RawKeyEvent) → Option KeyEvent
event_around n k down None = None
event_around n k down (Some r) =
    Some (record { key = k; modifiers = modifiers_by n.modifiers; leds = lights_by n.leds; repeat_count = 1; key_is_down = down; raw = r })

abbrev pub event_with : EventNumbers → Bor (List ℕ) → Option KeyCode → Option Bool → Option KeyEvent
event_with n text None d = None
event_with n text (Some k) None = None
event_with n text (Some k) (Some down) = event_around n k down (raw_by n.raw down text)

-- The event, if every number in it stands for something.
abbrev pub event_by : EventNumbers → Bor (List ℕ) → Bor (List ℕ) → Option KeyEvent
event_by n text raw_text = event_with n raw_text (key_by n.key.kind n.key.value text) (answer_by n.down)
