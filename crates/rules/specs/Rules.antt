-- What a key tells under the settings in force: the first rule that fits decides.
use Rattle.std.specs.Prelude.{ℕ, ◌+◌, Bool, cond, not, ◌&&◌, ◌||◌, List, [], ◌∷◌, Some, None, Option, ◌==◌, nat_le, slice_index}
use Rattle.std.specs.Option.{unwrap_or}
use Rattle.std.specs.Char.{to_ascii_uppercase}
use Rattle.input_types.specs.declared.phys_key_code.PhysKeyCode.{PhysKeyCode}
use Rattle.report.specs.declared.ending.Last.{Last}
use Rattle.report.specs.declared.ending.Last.TheVariants.{Tilde, Begin}
use Rattle.report.specs.declared.scalar.Scalar.{Scalar}
use Rattle.report.specs.Meanings.{Meaning, text, old}
use Rattle.input_types.specs.Bits.{holds, disambiguate, event_types, alternate_keys, all_keys, shift, alt, ctrl, super, num_lock}
use Rattle.events.specs.Kinds.{PlainKind, kind_of, character, composed, numpad, function, numbered, lettered, other}
use Rattle.tables.specs.Tables.{beside}
use Rattle.input_types.specs.Controls.{controls}
use Rattle.input_types.specs.PhysMaps.{key_of}
use Rattle.rules.specs.Pads.{pad_code}
use Rattle.events.specs.Events.{PlainRaw, PlainEvent, reported, sum, direction, phys_raw, guess, code_raw}
use Rattle.rules.specs.Typed.{typed}
use Rattle.rules.specs.Strokes.{PlainStroke, bare, full, wordless}

-- A rule passes to the next one, is silent, or says a report.
pub data Verdict : Type 0 where
  passes : Verdict
  silent : Verdict
  says : Meaning → Verdict

infixr 40 ◌▸◌
-- the first rule that does not pass
abbrev pub ◌▸◌ : Verdict → Verdict → Verdict
passes ▸ v = v
silent ▸ v = silent
says m ▸ v = says m

abbrev pub told : Verdict → Option Meaning
told passes = None
told silent = None
told (says m) = Some m

-- rules for one kind of key
abbrev pub on_character : PlainKind → (ℕ → Verdict) → Verdict
on_character (character c) f = f c
on_character (composed bs) f = passes
on_character (numpad n) f = passes
on_character (function n) f = passes
on_character (numbered n) f = passes
on_character (lettered l) f = passes
on_character other f = passes

abbrev pub on_function : PlainKind → (ℕ → Verdict) → Verdict
on_function (character c) f = passes
on_function (composed bs) f = passes
on_function (numpad n) f = passes
on_function (function n) f = f n
on_function (numbered n) f = passes
on_function (lettered l) f = passes
on_function other f = passes

abbrev pub on_numbered : PlainKind → (ℕ → Verdict) → Verdict
on_numbered (character c) f = passes
on_numbered (composed bs) f = passes
on_numbered (numpad n) f = passes
on_numbered (function n) f = passes
on_numbered (numbered n) f = f n
on_numbered (lettered l) f = passes
on_numbered other f = passes

abbrev pub on_lettered : PlainKind → (Last → Verdict) → Verdict
on_lettered (character c) f = passes
on_lettered (composed bs) f = passes
on_lettered (numpad n) f = passes
on_lettered (function n) f = passes
on_lettered (numbered n) f = passes
on_lettered (lettered l) f = f l
on_lettered other f = passes

-- A release is silent unless event types are reported.
abbrev pub hushed : ℕ → Bool → Bool
hushed flags down = not down && not (holds flags event_types)

abbrev pub releases : ℕ → Bool → Verdict
releases flags down = cond (hushed flags down) silent passes

-- Backspace is written as 127.
abbrev pub erased : ℕ → ℕ
erased c = cond (c == 8) 127 c

-- A character pressed with no modifiers of its own is its own text, unless all keys are reported as escape codes.
-- Escape goes on where escape codes are disambiguated, and Delete always does.
abbrev pub plainly : ℕ → Bool → ℕ → ℕ → Bool
plainly flags down own c = down && own == 0 && not (holds flags all_keys) && not (c == 27 && holds flags disambiguate) && not (c == 127)

abbrev pub plain_text : Scalar → Meaning
plain_text c = text c.code

abbrev pub texts : ℕ → Bool → ℕ → PlainKind → Verdict
texts flags down own k = on_character k (λ c. cond (plainly flags down own c) (says (text (erased c))) passes)

-- A key of the keypad has one number with Num Lock and one without; the middle one without it is E.
abbrev pub pad_tells : Option ℕ → PlainStroke → Verdict
pad_tells None s = passes
pad_tells (Some n) s = says (cond (n == 1) (bare 1 Begin s) (full n None None s))

abbrev pub pad_guess : Bool → Option PhysKeyCode → Option ℕ
pad_guess lock None = None
pad_guess lock (Some p) = pad_code p lock

abbrev pub keypad : Bool → Option PhysKeyCode → PlainStroke → Verdict
keypad lock guessed s = pad_tells (pad_guess lock guessed) s

-- Insert is 2, Delete 3, PageUp 5 and PageDown 6, with ~ at the end.
abbrev pub editing : PlainKind → PlainStroke → Verdict
editing k s = on_numbered k (λ n. says (bare n Tilde s)) ▸ on_character k (λ c. cond (c == 127) (says (bare 3 Tilde s)) passes)

-- A release of Enter, Tab or Backspace is silent unless all keys are reported as escape codes.
abbrev pub entering : ℕ → Bool → ℕ → Bool
entering flags down c = not down && not (holds flags all_keys) && (c == 13 || c == 9 || c == 8)

abbrev pub enters : ℕ → Bool → PlainKind → Verdict
enters flags down k = on_character k (λ c. cond (entering flags down c) silent passes)

-- A character goes the old way when pressed, if it is an ASCII letter, digit or mark, without Super, where neither alternate keys
-- nor all keys are reported, and where not both escape codes are disambiguated and Ctrl or Alt is held.
abbrev pub old_way : ℕ → Bool → ℕ → ℕ → Bool
old_way flags down own c =
    down && nat_le 33 c && nat_le c 126 && not (holds flags alternate_keys) && not (holds flags all_keys) && not (holds own super) && not (holds flags disambiguate && (holds own ctrl || holds own alt))

-- Ctrl makes a control code of a character's upper case, where there is one.
abbrev pub controlled : ℕ → ℕ
controlled c = unwrap_or (beside controls (to_ascii_uppercase c)) (to_ascii_uppercase c)

-- Alt puts an escape before it.
abbrev pub old_form : ℕ → ℕ → Meaning
old_form own c = cond (holds own alt) (old (cond (holds own ctrl) (controlled c) c)) (text (cond (holds own ctrl) (controlled c) c))

-- The shifted code is the character, where alternate keys are reported, Shift is, and the base differs.
abbrev pub shifted_code : ℕ → ℕ → ℕ → ℕ → Option ℕ
shifted_code flags mods c base = cond (holds flags alternate_keys && holds mods shift && not (c == base)) (Some c) None

-- The base code is what the physical key gives, where alternate keys are reported and it differs from the number.
abbrev pub unlike : ℕ → Option ℕ → Option ℕ
unlike n None = None
unlike n (Some b) = cond (b == n) None (Some b)

-- The character that a key means, as a sequence writes it. Delete is none: in a sequence 127 is Backspace.
abbrev pub written : PlainKind → Option ℕ
written (character c) = cond (c == 127) None (Some (erased c))
written (composed bs) = None
written (numpad n) = None
written (function n) = None
written (numbered n) = None
written (lettered l) = None
written other = None

-- what a physical key gives on a US keyboard without Shift
abbrev pub given_by : Option PhysKeyCode → Option ℕ
given_by None = None
given_by (Some p) = written (kind_of (key_of p))

abbrev pub layout_code : ℕ → Option PhysKeyCode → ℕ → Option ℕ
layout_code flags p n = cond (holds flags alternate_keys) (unlike n (given_by p)) None

-- Any other character tells its base as number, with its text.
abbrev pub new_form : (ℕ → ℕ) → ℕ → PlainEvent → ℕ → PlainStroke → Meaning
new_form base flags e c s = full (base c) (shifted_code flags (reported e) c (base c)) (layout_code flags (phys_raw e.raw) (base c)) s

abbrev pub character_key : (ℕ → ℕ) → ℕ → PlainEvent → ℕ → PlainStroke → Meaning
character_key base flags e c s = cond (old_way flags e.down e.modifiers c) (old_form e.modifiers c) (new_form base flags e (erased c) s)

abbrev pub characters : (ℕ → ℕ) → ℕ → PlainEvent → PlainKind → PlainStroke → Verdict
characters base flags e k s = on_character k (λ c. says (character_key base flags e c s))

-- An arrow, Home or End is number 1 with a final of its own.
abbrev pub arrows : PlainKind → PlainStroke → Verdict
arrows k s = on_lettered k (λ l. says (bare 1 l s))

-- The first twelve function keys, by number.
abbrev pub function_numbers : List ℕ
function_numbers = 0 ∷ 11 ∷ 12 ∷ 13 ∷ 14 ∷ 15 ∷ 17 ∷ 18 ∷ 19 ∷ 20 ∷ 21 ∷ 23 ∷ 24 ∷ []

-- Those end in ~, and the next twelve in u.
abbrev pub function_tells : ℕ → PlainStroke → Verdict
function_tells n s =
    cond (nat_le 1 n && nat_le n 12) (says (bare (slice_index function_numbers n) Tilde s))
    (cond (nat_le 13 n && nat_le n 24) (says (wordless (57363 + n) s)) passes)

abbrev pub functions : PlainKind → PlainStroke → Verdict
functions k s = on_function k (λ n. function_tells n s)

-- Any other key of a raw event tells its number among the functional keys, where all keys are reported as escape codes.
-- Insert, 2, and the middle key of the keypad, 57427, end in ~ with no text.
abbrev pub code_tells : Option ℕ → PlainStroke → Verdict
code_tells None s = passes
code_tells (Some n) s = says (cond (n == 2 || n == 57427) (bare n Tilde s) (full n None None s))

abbrev pub functional : ℕ → Option PlainRaw → PlainStroke → Verdict
functional flags raw s = cond (holds flags all_keys) (code_tells (code_raw raw) s) passes

-- what every sequence of an event bears
abbrev pub stroke : ℕ → PlainEvent → PlainStroke
stroke flags e = record { sum = sum e; direction = direction e; text = typed flags e.down e.key.kind }

-- the rules that look at more than the key's kind
abbrev pub early : ℕ → PlainEvent → PlainKind → PlainStroke → Verdict
early flags e k s = releases flags e.down ▸ texts flags e.down e.modifiers k ▸ keypad (holds e.leds num_lock) (guess e) s

-- the rules by the key's kind
abbrev pub late : (ℕ → ℕ) → ℕ → PlainEvent → PlainKind → PlainStroke → Verdict
late base flags e k s =
    editing k s ▸ enters flags e.down k ▸ characters base flags e k s ▸ arrows k s ▸ functions k s ▸ functional flags e.raw s

-- what the rule of plain text alone says
abbrev pub told_text : ℕ → PlainEvent → Option Meaning
told_text flags e = told (texts flags e.down e.modifiers e.key.kind)

-- the rules behind that of plain text
abbrev pub behind_text : (ℕ → ℕ) → ℕ → PlainEvent → Verdict
behind_text base flags e = keypad (holds e.leds num_lock) (guess e) (stroke flags e) ▸ late base flags e e.key.kind (stroke flags e)

abbrev pub verdict : (ℕ → ℕ) → ℕ → PlainEvent → Verdict
verdict base flags e = early flags e e.key.kind (stroke flags e) ▸ late base flags e e.key.kind (stroke flags e)

abbrev pub tells : (ℕ → ℕ) → ℕ → PlainEvent → Option Meaning
tells base flags e = told (verdict base flags e)

-- what a function of the code answers for a rule that is never silent
abbrev pub ruled : Option Meaning → Verdict
ruled None = passes
ruled (Some m) = says m
