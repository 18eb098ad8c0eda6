-- An answer as two numbers.
use Rattle.std.specs.Prelude.{ℕ, Ok, Err, Result}
use Rattle.seat.specs.declared.refusal.Refusal.{Refusal}
use Rattle.seat.specs.Refusals.{refusal_number, refusal_place}
use Rattle.seat_state.specs.declared.answer.Answer.{Answer}

abbrev pub done : ℕ → Answer
done n = record { refusal = 0; value = n }

abbrev pub refusal : ℕ → Answer
refusal n = record { refusal = n; value = 0 }

abbrev pub answer_of : Result ℕ Refusal → Answer
answer_of (Ok n) = done n
answer_of (Err e) = record { refusal = refusal_number e; value = refusal_place e }
