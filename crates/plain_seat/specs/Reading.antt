-- The bytes of a seat have one reading.
use Rattle.std.specs.Prelude.{◌≡◌, ℕ, ◌≤◌, true, List, [], ◌∷◌, ◌++◌, map, length, Some}
use Rattle.std.specs.List.{AllByRecursion, flat_map}
use Rattle.input_types.specs.Bits.{holds, disambiguate}
use Rattle.report.specs.Meanings.{Meaning, Valid, Clear}
use Rattle.events.specs.Events.{PlainEvent, sum, direction}
use Rattle.events.specs.Faults.{faultless}
use Rattle.rules.specs.Rules.{tells}
use Rattle.rules.specs.Laws.{IfTold, Own, CharacterKey, Fixed, OffKeypad, Lawful}
use Rattle.dialect.specs.Streams.{AllClear}
use Rattle.settings.specs.Stack.{Stacks}
use Rattle.plain_seat.specs.Plain.{Terms, Call, Reply, Entry, Keyed, Asked, Plain, outcome, start, after, replies, reports_of, said}

-- One call of a history: what was asked, what was answered, and the bytes moved.
pub record Turn : Type 0 where
  pub call : Call
  pub reply : Reply
  pub bytes : List ℕ

-- What can be seen of a seat.
pub record View : Type 0 where
  pub terms : Terms
  pub waiting : List ℕ
  pub stacks : Stacks

-- The plain seat after the calls of a history.
abbrev pub plainly : View → List Turn → Plain
plainly v h = after v.terms start (map (λ t. t.call) h)

-- The reports told, in order.
abbrev pub told : View → List Turn → List Meaning
told v h = flat_map (reports_of v.terms.base) (plainly v h).log

-- All bytes: those drained, then those waiting.
abbrev pub all_bytes : View → List Turn → List ℕ
all_bytes v h = flat_map (λ t. t.bytes) h ++ v.waiting

-- An accepted event has no fault, and what it tells is a report; an answer is a setting.
abbrev pub Sound : (ℕ → ℕ) → Entry → Type 0
Sound base (Keyed e flags) = (faultless e ≡ true) × IfTold Valid (tells base flags e)
Sound base (Asked flags) = flags ≤ 31

-- The disambiguate flag is in force at an accepted key.
abbrev pub Marked : Entry → Type 0
Marked (Keyed e flags) = holds flags disambiguate ≡ true
Marked (Asked flags) = Unit {0}

-- The number of a character key's sequence stands for no other key, and the layout leaves it alone.
abbrev pub Numbered : (ℕ → ℕ) → Entry → Type 0
Numbered base (Keyed e flags) = (c : ℕ) → CharacterKey e c → IfTold (Own base) (tells base flags e)
Numbered base (Asked flags) = Unit {0}

-- an arrow, Home, End, Page, Insert, Delete or F1 to F24 key with no keypad key guessed, which tells m
pub record TellsFixed (base : ℕ → ℕ) (flags : ℕ) (e : PlainEvent) (m : Meaning) : Type 0 where
  pub key : Fixed e.key.kind
  pub off : OffKeypad e
  pub tells_it : tells base flags e ≡ Some m

-- Two such keys that differ in key, direction or modifier sum differ in bytes.
abbrev pub Apart : Terms → Entry → Entry → Type 0
Apart t (Keyed e f) (Keyed d g) =
    (m n : Meaning) → TellsFixed t.base f e m → TellsFixed t.base g d n → t.bytes m ≡ t.bytes n
    → (e.key.kind ≡ d.key.kind) × (direction e ≡ direction d) × (sum e ≡ sum d)
Apart t (Keyed e f) (Asked g) = Unit {0}
Apart t (Asked f) y = Unit {0}

-- What holds of a seat after the calls of a history.
pub record OneReading (v : View) (h : List Turn) : Type 0 where
  -- every answer, and every setting, is the plain seat's
  pub answers : map (λ t. t.reply) h ≡ replies v.terms start (map (λ t. t.call) h)
  pub stacks : v.stacks ≡ (plainly v h).stacks
  pub count : length v.waiting ≡ (plainly v h).count
  -- the bytes drained, then those waiting, are the bytes of the reports told, in order
  pub bytes : all_bytes v h ≡ flat_map v.terms.bytes (told v h)
  pub sound : AllByRecursion (Sound v.terms.base) (plainly v h).log
  -- and where escape codes were disambiguated at every accepted key, they have one reading
  pub clear : AllByRecursion Marked (plainly v h).log → AllClear (told v h)
  pub unique : AllByRecursion Marked (plainly v h).log → (ms : List Meaning) → AllClear ms → flat_map v.terms.bytes ms ≡ all_bytes v h → ms ≡ told v h
  pub numbers : AllByRecursion (Numbered v.terms.base) (plainly v h).log
  pub apart : AllByRecursion (λ x. AllByRecursion (Apart v.terms x) (plainly v h).log) (plainly v h).log

-- What one call does: it is the plain seat's step, and it hands on the bytes in order.
pub record Steps (v : View) (c : Call) (r : Reply) (bs : List ℕ) (w : View) : Type 0 where
  pub terms : w.terms ≡ v.terms
  pub stacks : w.stacks ≡ (outcome v.terms v.stacks (length v.waiting) c).stacks
  pub reply : r ≡ (outcome v.terms v.stacks (length v.waiting) c).reply
  pub bytes : bs ++ w.waiting ≡ v.waiting ++ flat_map (said v.terms) (outcome v.terms v.stacks (length v.waiting) c).log
  pub taken : length bs ≡ (outcome v.terms v.stacks (length v.waiting) c).taken
  pub sound : AllByRecursion (Sound v.terms.base) (outcome v.terms v.stacks (length v.waiting) c).log

abbrev pub turn : Call → Reply → List ℕ → Turn
turn c r bs = record { call = c; reply = r; bytes = bs }

-- A call goes on from every history.
abbrev pub GoesOn : View → Call → Reply → List ℕ → View → Type 0
GoesOn v c r bs w = (h : List Turn) → OneReading v h → OneReading w (h ++ turn c r bs ∷ [])

-- What the layout and the dialect of a seat show.
pub record Laws (t : Terms) : Type 0 where
  pub lawful : Lawful t.base
  pub sized : (m : Meaning) → Valid m → (1 ≤ length (t.bytes m)) × (length (t.bytes m) ≤ 512)
  pub apart : (m n : Meaning) (rest : List ℕ) → Valid m → Clear m → Valid n → Clear n → t.bytes m ++ rest ≡ t.bytes n → m ≡ n

-- The step of the main theorem: what every call does goes on from every history.
abbrev pub CallsGoOn : Type 0
CallsGoOn = (v w : View) → Laws v.terms → (c : Call) (r : Reply) (bs : List ℕ) → Steps v c r bs w → GoesOn v c r bs w
