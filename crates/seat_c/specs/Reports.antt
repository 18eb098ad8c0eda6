-- A report that was read, as numbers.
use Rattle.std.specs.Prelude.{◌≡◌, ℕ, ◌≤◌, ◌⊎◌, List, length, Ok, Err, Result}
use Rattle.report.specs.Endings.{direction_number, last_byte}
use Rattle.report.specs.Meanings.{Meaning, means, text, old, answer, sequence}
use Rattle.frames.specs.Framing.{or_none}
use Rattle.pieces.specs.declared.found.Seen.{Seen}
use Rattle.reading.specs.declared.faults.ReadFault.{ReadFault}
use Rattle.reading.specs.Faults.{fault_number}
use Rattle.reading.specs.Reading.{Fills}
use Rattle.seat_state.specs.declared.answer.Answer.{Answer}
use Rattle.seat_state.specs.declared.known.AnyDialect.{AnyDialect}
use Rattle.seat_state.specs.Answers.{done, refusal}
use Rattle.seat_state.specs.Known.{dialect_number, bytes_in}
use Rattle.seat_c.specs.declared.read.ReportNumbers.{ReportNumbers}

abbrev pub bare : ℕ → ℕ → ReportNumbers
bare kind number =
    record { kind = kind; number = number; shifted = 4294967295; base = 4294967295; sum = 0; direction = 0; last = 0; text = 0 }

-- The kinds are those of frames; an absent code is FFFFFFFF; the text is told by its length.
abbrev pub report_numbers : Meaning → ReportNumbers
report_numbers (text c) = bare 1 c
report_numbers (sequence f) =
    record { kind = 2; number = f.number; shifted = or_none f.shifted; base = or_none f.base; sum = f.sum; direction = direction_number f.direction; last = last_byte f.last; text = length f.text }
report_numbers (answer n) = bare 3 n
report_numbers (old c) = bare 4 c

abbrev pub read_answer : Result Seen ReadFault → Answer
read_answer (Ok s) = done s.length
read_answer (Err e) = refusal (fault_number e)

-- a report is told where one was found
abbrev pub told : Result Seen ReadFault → ReportNumbers → ReportNumbers
told (Ok s) before = report_numbers (means s.report)
told (Err e) before = before

pub record Read (dialect : ℕ) (given text₀ : List ℕ) (n : ReportNumbers) (a : Answer) (text₁ : List ℕ) (n' : ReportNumbers) : Type 0 where
  pub in_dialect : AnyDialect
  pub outcome : Result Seen ReadFault
  pub dialect_is : dialect_number in_dialect ≡ dialect
  pub fills : Fills (bytes_in in_dialect) given text₀ text₁ outcome
  pub answer_is : a ≡ read_answer outcome
  pub report : n' ≡ told outcome n

-- A number names no dialect, and nothing changes.
pub record Unknown (dialect : ℕ) (text₀ : List ℕ) (n : ReportNumbers) (a : Answer) (text₁ : List ℕ) (n' : ReportNumbers) : Type 0 where
  pub none : 2 ≤ dialect
  pub answer_is : a ≡ refusal 26
  pub text_same : text₁ ≡ text₀
  pub report : n' ≡ n

abbrev pub Reads : ℕ → List ℕ → List ℕ → ReportNumbers → Answer → List ℕ → ReportNumbers → Type 0
Reads dialect given text₀ n a text₁ n' =
    Unknown dialect text₀ n a text₁ n' ⊎ Read dialect given text₀ n a text₁ n'
