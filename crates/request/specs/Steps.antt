-- What a byte does to the reader of requests.
use Rattle.std.specs.Prelude.{ℕ, ◌+◌, ◌-◌, ◌*◌, Bool, cond, ◌&&◌, Some, None, Ok, Err, Option, Result, ◌==◌, nat_le}
use Rattle.std.specs.Option.{unwrap_or}
use Rattle.request.specs.declared.Request.{Request}
use Rattle.request.specs.declared.Request.TheVariants as R
use Rattle.request.specs.declared.Fault.{Fault}
use Rattle.request.specs.declared.Fault.TheVariants.{Misfit}
use Rattle.request.specs.declared.State.{State}
use Rattle.request.specs.declared.State.TheVariants as S

abbrev pub Answer : Type 0
Answer = Result (Option Request) Fault

abbrev pub digit : ℕ → Bool
digit b = nat_le 48 b && nat_le b 57

abbrev pub more : Option ℕ → ℕ → Option ℕ
more n b = cond (digit b && nat_le (unwrap_or n 0 * 10 + (b - 48)) 65535) (Some (unwrap_or n 0 * 10 + (b - 48))) None

abbrev pub stands : State → State × Answer
stands s = (s, Ok None)

abbrev pub ends : Request → State × Answer
ends q = (S.Start, Ok (Some q))

-- a misfit starts over, and a misfit ESC begins a request
abbrev pub spoiled : ℕ → State × Answer
spoiled b = (cond (b == 27) S.Escape S.Start, Err Misfit)

abbrev pub on : (ℕ → State) → ℕ → Option ℕ → State × Answer
on f b (Some n) = stands (f n)
on f b None = spoiled b

abbrev pub step : State → ℕ → State × Answer
step S.Start b = cond (b == 27) (stands S.Escape) (spoiled b)
step S.Escape b = cond (b == 91) (stands S.Bracket) (spoiled b)
step S.Bracket b = cond (b == 62) (stands (S.Push None)) (cond (b == 60) (stands (S.Pop None)) (cond (b == 61) (stands (S.Set None)) (cond (b == 63) (stands S.Query) (spoiled b))))
step S.Query b = cond (b == 117) (ends R.Query) (spoiled b)
step (S.Push n) b = cond (b == 117) (ends (R.Push (unwrap_or n 0))) (on (λ m. S.Push (Some m)) b (more n b))
step (S.Pop n) b = cond (b == 117) (ends (R.Pop (unwrap_or n 1))) (on (λ m. S.Pop (Some m)) b (more n b))
step (S.Set n) b = cond (b == 117) (ends (R.Set (unwrap_or n 0) 1)) (cond (b == 59) (stands (S.Mode (unwrap_or n 0) None)) (on (λ m. S.Set (Some m)) b (more n b)))
step (S.Mode f n) b = cond (b == 117) (ends (R.Set f (unwrap_or n 1))) (on (λ m. S.Mode f (Some m)) b (more n b))
