-- What is left of a frame after each of its parts.
use Rattle.std.specs.Prelude.{◌≡◌, ℕ, ◌≤◌, Bool, true, false, List, [], ◌∷◌, ◌++◌, length, replicate, ◌≢◌}
use Rattle.std.specs.List.{flat_map}
use Rattle.report.specs.declared.ending.Last.{Last}
use Rattle.report.specs.Meanings.{Meaning, Fields, Sound, text, answer, sequence}
use Rattle.report.specs.Endings.{direction_number, last_byte}
use Rattle.frames.specs.Framing.{le32, or_none, field_bytes}
use Rattle.sequences.specs.Leads.{Lead}
use Rattle.sequences.specs.Parts.{filled}
use Rattle.frame_reading.specs.declared.found.Body.{Body}
use Rattle.frame_reading.specs.declared.found.Body.TheVariants.{Text, Answer, Sequence}
use Rattle.frame_reading.specs.declared.found.Rule.TheVariants.{Clear}
use Rattle.frame_reading.specs.Quads.{Quads}

-- a text
abbrev pub AtText : List ℕ → Meaning → Type 0
AtText s m = (c : ℕ) × (m ≡ text c) × Quads Clear s c

-- an answer
abbrev pub AtFlags : List ℕ → Meaning → Type 0
AtFlags s m = (n : ℕ) × (m ≡ answer n) × (n ≤ 31) × (s ≡ n ∷ [])

-- a sequence with k characters
abbrev pub Good : ℕ → Fields → Type 0
Good k f = Sound f × (length f.text ≡ k)

abbrev pub from_count : Fields → List ℕ
from_count f = length f.text ∷ flat_map le32 f.text

abbrev pub from_last : Fields → List ℕ
from_last f = last_byte f.last ∷ from_count f

abbrev pub from_direction : Fields → List ℕ
from_direction f = direction_number f.direction ∷ from_last f

abbrev pub from_sum : Fields → List ℕ
from_sum f = f.sum ∷ from_direction f

abbrev pub from_base : Fields → List ℕ
from_base f = le32 (or_none f.base) ++ from_sum f

abbrev pub from_shifted : Fields → List ℕ
from_shifted f = le32 (or_none f.shifted) ++ from_base f

abbrev pub AtNumber : ℕ → List ℕ → Fields → Type 0
AtNumber k s f = Good k f × (s ≡ field_bytes f)

abbrev pub AtShifted : ℕ → Lead → List ℕ → Fields → Type 0
AtShifted k h s f = Good k f × (f.number ≡ h.number) × (s ≡ from_shifted f)

abbrev pub AtBase : ℕ → Lead → List ℕ → Fields → Type 0
AtBase k h s f = Good k f × (f.number ≡ h.number) × (f.shifted ≡ h.shifted) × (s ≡ from_base f)

abbrev pub AtSum : ℕ → Lead → List ℕ → Fields → Type 0
AtSum k h s f = Good k f × (f.number ≡ h.number) × (f.shifted ≡ h.shifted) × (f.base ≡ h.base) × (s ≡ from_sum f)

abbrev pub AtDirection : ℕ → Lead → List ℕ → Fields → Type 0
AtDirection k h s f = Good k f × (f.number ≡ h.number) × (f.shifted ≡ h.shifted) × (f.base ≡ h.base) × (f.sum ≡ h.sum) × (s ≡ from_direction f)

-- the parts before the final byte are those of the head
abbrev pub Leads : Lead → Fields → Type 0
Leads h f = (f.number ≡ h.number) × (f.shifted ≡ h.shifted) × (f.base ≡ h.base) × (f.sum ≡ h.sum) × (f.direction ≡ h.direction)

abbrev pub AtLast : ℕ → Lead → List ℕ → Fields → Type 0
AtLast k h s f = Good k f × Leads h f × (s ≡ from_last f)

abbrev pub AtCount : ℕ → Lead → Last → List ℕ → Fields → Type 0
AtCount k h l s f = Good k f × Leads h f × (f.last ≡ l) × (s ≡ from_count f)

-- after the characters of cs
abbrev pub AtCodes : ℕ → Lead → Last → List ℕ → List ℕ → Fields → Type 0
AtCodes k h l cs s f = Good k f × Leads h f × (f.last ≡ l) × ((ds : List ℕ) × (f.text ≡ cs ++ ds) × (s ≡ flat_map le32 ds))

-- what comes after four bytes that are a code or its absence
abbrev pub after_shifted : ℕ → Lead → ℕ → List ℕ → Fields → Type 0
after_shifted k h v s f = Good k f × (f.number ≡ h.number) × (or_none f.shifted ≡ v) × (s ≡ from_base f)

abbrev pub after_base : ℕ → Lead → ℕ → List ℕ → Fields → Type 0
after_base k h v s f = Good k f × (f.number ≡ h.number) × (f.shifted ≡ h.shifted) × (or_none f.base ≡ v) × (s ≡ from_sum f)

-- what comes after the byte of a direction, of an end, of a count
abbrev pub after_direction : ℕ → Lead → ℕ → List ℕ → Fields → Type 0
after_direction k h b s f = Good k f × (f.number ≡ h.number) × (f.shifted ≡ h.shifted) × (f.base ≡ h.base) × (f.sum ≡ h.sum) × (direction_number f.direction ≡ b) × (s ≡ from_last f)

abbrev pub after_last : ℕ → Lead → ℕ → List ℕ → Fields → Type 0
after_last k h b s f = Good k f × Leads h f × (last_byte f.last ≡ b) × (s ≡ from_count f)

abbrev pub after_count : ℕ → Lead → Last → ℕ → List ℕ → Fields → Type 0
after_count k h l b s f = (b ≡ k) × AtCodes k h l [] s f

-- whether a text of k characters can follow
abbrev pub Ends : Lead → Last → ℕ → Bool → Type 0
Ends h l k true = Sound (filled h l (replicate k 0))
Ends h l k false = (f : Fields) → Good k f → Leads h f → f.last ≢ l

-- what a frame holds after its length and kind
abbrev pub InBody : Body → List ℕ → Meaning → Type 0
InBody Text s m = AtText s m
InBody Answer s m = AtFlags s m
InBody (Sequence k) s m = (f : Fields) × (m ≡ sequence f) × AtNumber k s f
