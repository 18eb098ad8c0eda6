-- A number in decimal, or none, and the byte after it, which is no digit.
use Rattle.std.specs.Prelude.{◌≡◌, ℕ, ◌≤◌, false, List, [], ◌∷◌, ◌++◌, Some, None, Option, Result}
use Rattle.std.specs.Char.{is_ascii_digit}
use Rattle.dialect.specs.KittyBytes.{optional}
use Rattle.pieces.specs.declared.found.Ended.{Ended}
use Rattle.pieces.specs.declared.found.Fault.{Fault}
use Rattle.pieces.specs.declared.found.Range.{Range}
use Rattle.pieces.specs.Ranges.{least, most}
use Rattle.pieces.specs.Says.{Says}

pub record Run : Type 0 where
  pub value : Option ℕ
  pub mark : ℕ

abbrev pub Within : Range → Option ℕ → Type 0
Within range None = Unit {0}
Within range (Some n) = (least range ≤ n) × (n ≤ most range)

abbrev pub Runs : Range → List ℕ → Run → Type 0
Runs range s r = Within range r.value × (is_ascii_digit r.mark ≡ false) × (s ≡ optional r.value ++ (r.mark ∷ []))

abbrev pub run_of : Ended → Run
run_of e = record { value = e.value; mark = e.mark }

abbrev pub Ends : Range → List ℕ → ℕ → Result Ended Fault → Type 0
Ends range given at r = Says (Runs range) run_of (λ e. e.next) given at r
