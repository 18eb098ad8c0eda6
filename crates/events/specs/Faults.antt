-- What is wrong with an event: the first fault of the event itself, or else of its raw event.
use Rattle.std.specs.Prelude.{ℕ, Bool, false, cond, not, ◌&&◌, ◌||◌, List, length, is_some, Some, None, Option, nat_le}
use Rattle.std.specs.Str.{chars}
use Rattle.input_types.specs.Bits.{named_modifiers, named_lights}
use Rattle.texts.specs.Texts.{utf8, front, allowed, place_after}
use Rattle.events.specs.Kinds.{PlainKind, character, composed, numpad, function, numbered, lettered, other}
use Rattle.events.specs.Events.{PlainRaw, PlainEvent}
use Rattle.events.specs.declared.fault.Fault.{Fault}
use Rattle.events.specs.declared.fault.Fault.TheVariants.{NotAllowed, OutOfRange, NotText, TooLong}

-- the first of two faults
abbrev pub before : Option Fault → Option Fault → Option Fault
before None o = o
before (Some f) o = Some f

abbrev pub too_long : Option ℕ → Option Fault
too_long None = None
too_long (Some p) = Some (TooLong p)

-- composed text is UTF-8 of at most 32 characters
abbrev pub text_fault : List ℕ → Option Fault
text_fault bs = cond (utf8 bs) (too_long (place_after 0 32 (chars bs))) (Some (NotText (front (length bs) bs)))

-- a character is none of those that stand for other keys
abbrev pub char_fault : PlainKind → Bool
char_fault (character c) = not (allowed c)
char_fault (composed bs) = false
char_fault (numpad n) = false
char_fault (function n) = false
char_fault (numbered n) = false
char_fault (lettered l) = false
char_fault other = false

-- function keys run from 1 to 35, and the keypad's digits from 0 to 9
abbrev pub range_fault : PlainKind → Bool
range_fault (character c) = false
range_fault (composed bs) = false
range_fault (numpad n) = not (nat_le n 9)
range_fault (function n) = not (nat_le 1 n && nat_le n 35)
range_fault (numbered n) = false
range_fault (lettered l) = false
range_fault other = false

abbrev pub composed_fault : PlainKind → Option Fault
composed_fault (character c) = None
composed_fault (composed bs) = text_fault bs
composed_fault (numpad n) = None
composed_fault (function n) = None
composed_fault (numbered n) = None
composed_fault (lettered l) = None
composed_fault other = None

-- a bit of the modifiers or of the lights has no name
abbrev pub unnamed : ℕ → ℕ → Bool
unnamed modifiers leds = not (named_modifiers modifiers && named_lights leds)

abbrev pub part_fault : PlainKind → ℕ → ℕ → Option Fault
part_fault k m l = cond (char_fault k) (Some NotAllowed) (cond (range_fault k || unnamed m l) (Some OutOfRange) (composed_fault k))

abbrev pub raw_fault : Option PlainRaw → Option Fault
raw_fault None = None
raw_fault (Some r) = part_fault r.key.kind r.modifiers r.leds

abbrev pub event_fault : PlainEvent → Option Fault
event_fault e = before (part_fault e.key.kind e.modifiers e.leds) (raw_fault e.raw)

-- nothing is wrong with an event
abbrev pub faultless : PlainEvent → Bool
faultless e = not (is_some (event_fault e))
