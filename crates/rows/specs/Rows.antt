-- Worked rows: what some events send on a US keyboard in the kitty dialect, and what some names read as.
use Rattle.std.specs.Prelude.{◌≡◌, ℕ, true, false, List, [], ◌∷◌, Some, None, Ok, Err, codes, Option, Result}
use Rattle.std.specs.Option.{option_map}
use Rattle.numbers.specs.declared.NumberKind.TheVariants.{OutOfRange}
use Rattle.input_types.specs.declared.key_code.KeyCode.{KeyCode}
use Rattle.input_types.specs.declared.key_code.KeyCode.TheVariants as K
use Rattle.layout.specs.Unshifted.{base_of}
use Rattle.events.specs.Events.{PlainEvent, plain_key}
use Rattle.events.specs.Faults.{faultless}
use Rattle.names.specs.declared.fault.NameFault.{NameFault}
use Rattle.names.specs.declared.fault.NameFault.TheVariants.{Number}
use Rattle.names.specs.Reads.{of_text}
use Rattle.key_names.specs.KeyReads.{key_named}
use Rattle.modifier_names.specs.Words.{listed}
use Rattle.rules.specs.Rules.{tells}
use Rattle.dialect.specs.KittyBytes.{kitty_bytes}

-- a press with some modifiers and lights, and no raw event
abbrev press : KeyCode → ℕ → ℕ → PlainEvent
press k m l = record { key = plain_key k; modifiers = m; leds = l; down = true; raw = None }

abbrev release : KeyCode → PlainEvent
release k = record { key = plain_key k; modifiers = 0; leds = 0; down = false; raw = None }

-- a press whose raw event has the same key and modifiers of its own
abbrev press_with : KeyCode → ℕ → PlainEvent
press_with k m = record { key = plain_key k; modifiers = 0; leds = 0; down = true; raw = Some (record { key = plain_key k; modifiers = m; leds = 0; phys = None }) }

-- the event passes the check and sends these bytes, or none
abbrev Sends : PlainEvent → ℕ → Option (List ℕ) → Type 0
Sends e flags bytes = (faultless e ≡ true) × (option_map kitty_bytes (tells base_of flags e) ≡ bytes)

-- ESC and what follows it
abbrev escape : List ℕ → Option (List ℕ)
escape bs = Some (27 ∷ bs)

-- a number out of its range, right after F
abbrev out_of_range : Result KeyCode NameFault
out_of_range = Err (Number (record { kind = OutOfRange; place = 1 }))

pub record Rows : Type 0 where
  pub f5 : Sends (press (K.Function 5) 0 0) 1 (escape (codes "[15;1~"))
  pub f6 : Sends (press (K.Function 6) 0 0) 1 (escape (codes "[17;1~"))
  pub up_shift : Sends (press_with K.UpArrow 2) 1 (escape (codes "[1;2A"))
  pub escape_plain : Sends (press (K.Char 27) 0 0) 0 (escape [])
  pub escape_apart : Sends (press (K.Char 27) 0 0) 1 (escape (codes "[27;1u"))
  pub a_all_keys : Sends (press (K.Char 97) 0 0) 8 (escape (codes "[97;1u"))
  pub alt_ctrl_a : Sends (press (K.Char 97) 12 0) 0 (escape (1 ∷ []))
  pub delete : Sends (press (K.Char 127) 0 0) 0 (escape (codes "[3;1~"))
  pub backspace : Sends (press (K.Char 8) 0 0) 0 (Some (127 ∷ []))
  pub enter_release : Sends (release (K.Char 13)) 2 None
  pub enter_release_all : Sends (release (K.Char 13)) 10 (escape (codes "[13;1:3u"))
  pub five_caps : Sends (press (K.Numpad 5) 0 2) 0 (escape (codes "[1;65E"))
  pub five_num_lock : Sends (press (K.Numpad 5) 0 4) 17 (escape (codes "[57404;129;53u"))
  pub ctrl_shift_a : Sends (press (K.Char 65) 10 0) 5 (escape (codes "[97:65;6u"))
  pub name_f : of_text key_named (codes "F") ≡ Ok (K.Char 70)
  pub name_f24 : of_text key_named (codes "F24") ≡ Ok (K.Function 24)
  pub name_f0 : of_text key_named (codes "F0") ≡ out_of_range
  pub name_f25 : of_text key_named (codes "F25") ≡ out_of_range
  pub name_f_plus_7 : of_text key_named (codes "F+7") ≡ Ok (K.Function 7)
  pub list_shift_ctrl : of_text listed (codes " SHIFT | CTRL ") ≡ Ok (record { bits = 10 })
