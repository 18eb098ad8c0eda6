-- What is left of a sequence after each of its parts.
use Rattle.std.specs.Prelude.{◌≡◌, ℕ, ◌+◌, ◌-◌, ◌≤◌, Bool, true, false, List, [], ◌∷◌, ◌++◌, Some, None, Ok, Err, decimal, Option, Result, ◌==◌, ◌≢◌}
use Rattle.std.proofs.Math.Utf8.{scalar}
use Rattle.report.specs.declared.ending.Direction.{Direction}
use Rattle.report.specs.declared.ending.Direction.TheVariants.{Press}
use Rattle.report.specs.declared.ending.Last.{Last}
use Rattle.report.specs.declared.ending.Last.TheVariants.{U}
use Rattle.report.specs.Made.{parted}
use Rattle.report.specs.Meanings.{Fields, Sound, Coded, fields}
use Rattle.report.specs.Endings.{direction_number, is_press, last_byte}
use Rattle.dialect.specs.KittyBytes.{alternates, event, further, typed, parts, plain}
use Rattle.pieces.specs.declared.found.Fault.{Fault}
use Rattle.pieces.specs.declared.found.Fault.TheVariants.{Unknown}
use Rattle.pieces.specs.Says.{Says}
use Rattle.sequences.specs.Leads.{Lead}
use Rattle.sequences.specs.declared.told.Told.{Told}

-- a sequence in its long form
abbrev pub Long : Fields → Type 0
Long f = Sound f × (plain f ≡ false)

-- from the text on
abbrev pub closing : Fields → List ℕ
closing f = typed f.text ++ (last_byte f.last ∷ [])

-- from the modifiers on
abbrev pub held : Fields → List ℕ
held f = decimal (f.sum + 1) ++ (event f.direction ++ closing f)

-- after ESC [
abbrev pub AtNumber : List ℕ → Fields → Type 0
AtNumber s f = Long f × (s ≡ parts f)

-- after the number and a colon
abbrev pub AtShifted : ℕ → List ℕ → Fields → Type 0
AtShifted n s f = Long f × (f.number ≡ n) × (58 ∷ s ≡ alternates f.shifted f.base ++ (59 ∷ held f))

-- after the shifted code, if any, and a colon
abbrev pub AtBase : ℕ → Option ℕ → List ℕ → Fields → Type 0
AtBase n o s f = Long f × (f.number ≡ n) × (f.shifted ≡ o) × ((b : ℕ) × (f.base ≡ Some b) × (s ≡ decimal b ++ (59 ∷ held f)))

-- after the first semicolon
abbrev pub AtSum : ℕ → Option ℕ → Option ℕ → List ℕ → Fields → Type 0
AtSum n o p s f = Long f × (f.number ≡ n) × (f.shifted ≡ o) × (f.base ≡ p) × (s ≡ held f)

-- the sequence begins with these parts, the direction left open
abbrev pub Begun : Lead → Fields → Type 0
Begun h f = Long f × (f.number ≡ h.number) × (f.shifted ≡ h.shifted) × (f.base ≡ h.base) × (f.sum ≡ h.sum)

-- the sequence begins with these parts
abbrev pub Headed : Lead → Fields → Type 0
Headed h f = Long f × (f.number ≡ h.number) × (f.shifted ≡ h.shifted) × (f.base ≡ h.base) × (f.sum ≡ h.sum) × (f.direction ≡ h.direction)

abbrev pub headed : ℕ → Option ℕ → Option ℕ → ℕ → Direction → Lead
headed n o p k d = record { number = n; shifted = o; base = p; sum = k; direction = d }

abbrev pub redirected : Lead → Direction → Lead
redirected h d = headed h.number h.shifted h.base h.sum d

-- after the modifiers and a colon
abbrev pub AtEvent : Lead → List ℕ → Fields → Type 0
AtEvent h s f = Begun h f × (is_press f.direction ≡ false) × (s ≡ (48 + direction_number f.direction) ∷ closing f)

-- after the direction
abbrev pub AtMark : Lead → List ℕ → Fields → Type 0
AtMark h s f = Headed h f × (s ≡ closing f)

-- after the byte b that follows the modifiers and the direction
abbrev pub AtClosing : Lead → ℕ → List ℕ → Fields → Type 0
AtClosing h b s f = Headed h f × (b ∷ s ≡ closing f)

-- at the next character of the text, after those of cs
abbrev pub AtText : Lead → List ℕ → List ℕ → Fields → Type 0
AtText h cs s f = Headed h f × ((c : ℕ) × (ds : List ℕ) × (f.text ≡ cs ++ (c ∷ ds)) × (s ≡ decimal c ++ (further ds ++ (last_byte f.last ∷ []))))

-- at the end, where the text was cs
abbrev pub AtEnd : Lead → List ℕ → List ℕ → Fields → Type 0
AtEnd h cs s f = Headed h f × (f.text ≡ cs) × (f.last ≡ U) × (s ≡ [])

abbrev pub choose : Bool → Type 0 → Type 0 → Type 0
choose true a b = a
choose false a b = b

-- what comes after a number, or none, and the byte that follows it
abbrev pub after_number : Option ℕ → ℕ → List ℕ → Fields → Type 0
after_number None b s f = ⊥
after_number (Some n) b s f = choose (b == 58) (AtShifted n s f) (choose (b == 59) (AtSum n None None s f) ⊥)

abbrev pub after_shifted : ℕ → Option ℕ → ℕ → List ℕ → Fields → Type 0
after_shifted n None b s f = choose (b == 58) (AtBase n None s f) ⊥
after_shifted n (Some o) b s f = choose (b == 58) (AtBase n (Some o) s f) (choose (b == 59) (AtSum n (Some o) None s f) ⊥)

abbrev pub after_base : ℕ → Option ℕ → Option ℕ → ℕ → List ℕ → Fields → Type 0
after_base n o None b s f = ⊥
after_base n o (Some p) b s f = choose (b == 59) (AtSum n o (Some p) s f) ⊥

abbrev pub after_sum : ℕ → Option ℕ → Option ℕ → Option ℕ → ℕ → List ℕ → Fields → Type 0
after_sum n o p None b s f = ⊥
after_sum n o p (Some k) b s f = choose (b == 58) (AtEvent (headed n o p (k - 1) Press) s f) (AtClosing (headed n o p (k - 1) Press) b s f)

-- after the digit of a direction
abbrev pub after_event : Lead → ℕ → List ℕ → Fields → Type 0
after_event h b s f = Begun h f × (is_press f.direction ≡ false) × (48 + direction_number f.direction ≡ b) × (s ≡ closing f)

abbrev pub after_character : Lead → List ℕ → Option ℕ → ℕ → List ℕ → Fields → Type 0
after_character h cs None b s f = ⊥
after_character h cs (Some c) b s f = choose (b == 58) (AtText h (cs ++ (c ∷ [])) s f) (choose (b == 117) (AtEnd h (cs ++ (c ∷ [])) s f) ⊥)

-- the parts before the text are in range
abbrev pub Started : Lead → Type 0
Started h = (h.number ≤ 1114111) × Coded h.shifted × Coded h.base × (h.sum ≤ 255)

abbrev pub filled : Lead → Last → List ℕ → Fields
filled h l cs = parted h.number h.shifted h.base h.sum h.direction l cs

abbrev pub Tells : (List ℕ → Fields → Type 0) → List ℕ → ℕ → Result Told Fault → Type 0
Tells L given at r = Says L (λ t. fields t.sequence) (λ t. t.next) given at r

-- the sequence with these parts, where it is one in the long form
abbrev pub Makes : Fields → ℕ → Result Told Fault → Type 0
Makes f next (Ok t) = (fields t.sequence ≡ f) × Long f × (t.next ≡ next)
Makes f next (Err e) = (e ≡ Unknown) × (Long f → ⊥)

-- the character that a number is
abbrev pub CharacterFor : Option ℕ → Option ℕ → Type 0
CharacterFor v None = (c : ℕ) → v ≡ Some c → scalar c ≢ true
CharacterFor v (Some c) = (v ≡ Some c) × (scalar c ≡ true)

-- the direction that a digit marks
abbrev pub EventFor : ℕ → Option Direction → Type 0
EventFor b None = (d : Direction) → is_press d ≡ false → 48 + direction_number d ≢ b
EventFor b (Some d) = (is_press d ≡ false) × (48 + direction_number d ≡ b)
