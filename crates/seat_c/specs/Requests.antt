-- Requests of a host, read one byte at a time.
use Rattle.std.specs.Prelude.{◌≡◌, ℕ, ◌⊎◌, Some, None, Ok, Err}
use Rattle.request.specs.declared.Request.{Request}
use Rattle.request.specs.declared.Request.TheVariants as R
use Rattle.request.specs.declared.State.{State}
use Rattle.request.specs.declared.resuming.Kept.{Kept}
use Rattle.request.specs.Steps as steps
use Rattle.request.specs.Keeping.{kept_of, NoReader}
use Rattle.seat_state.specs.declared.answer.Answer.{Answer}
use Rattle.seat_state.specs.Answers.{done, refusal}
use Rattle.seat_c.specs.declared.requests.RequestNumbers.{RequestNumbers}

abbrev pub asks : ℕ → ℕ → ℕ → RequestNumbers
asks kind first second = record { kind = kind; first = first; second = second }

abbrev pub request_numbers : Request → RequestNumbers
request_numbers (R.Push f) = asks 1 f 0
request_numbers (R.Pop n) = asks 2 n 0
request_numbers (R.Set f m) = asks 3 f m
request_numbers R.Query = asks 4 0 0

-- the request that a byte ended, or none
abbrev pub ended : steps.Answer → RequestNumbers
ended (Ok None) = asks 0 0 0
ended (Ok (Some q)) = request_numbers q
ended (Err f) = asks 0 0 0

abbrev pub answered : steps.Answer → Answer
answered (Ok None) = done 0
answered (Ok (Some q)) = done 1
answered (Err f) = refusal 12

-- The byte is the reader's next, and a misfit starts over.
pub record Fed (k : Kept) (byte : ℕ) (a : Answer) (k' : Kept) (q : RequestNumbers) : Type 0 where
  pub state : State
  pub kept : kept_of state ≡ k
  pub after : kept_of (steps.step state byte).0 ≡ k'
  pub answer : a ≡ answered (steps.step state byte).1
  pub request : q ≡ ended (steps.step state byte).1

-- What is no reader is refused, and nothing changes.
pub record Unread (k : Kept) (a : Answer) (k' : Kept) (q q' : RequestNumbers) : Type 0 where
  pub none : NoReader k
  pub answer : a ≡ refusal 25
  pub state : k' ≡ k
  pub request : q' ≡ q

abbrev pub Feeds : Kept → ℕ → RequestNumbers → Answer → Kept → RequestNumbers → Type 0
Feeds k byte q a k' q' = Unread k a k' q q' ⊎ Fed k byte a k' q'
