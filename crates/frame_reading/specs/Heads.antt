-- The length and the kind of a frame, by what it holds.
use Rattle.std.specs.Prelude.{◌≡◌, ℕ, ◌+◌, ◌*◌, ◌≤◌, List, [], ◌∷◌, Result}
use Rattle.pieces.specs.declared.found.Fault.{Fault}
use Rattle.pieces.specs.Says.{Says}
use Rattle.frame_reading.specs.declared.found.Body.{Body}
use Rattle.frame_reading.specs.declared.found.Body.TheVariants.{Text, Answer, Sequence}

abbrev pub Fits : Body → Type 0
Fits Text = Unit {0}
Fits Answer = Unit {0}
Fits (Sequence k) = k ≤ 32

abbrev pub length_of : Body → ℕ
length_of Text = 6
length_of Answer = 3
length_of (Sequence k) = 18 + 4 * k

abbrev pub kind_of : Body → ℕ
kind_of Text = 1
kind_of Answer = 3
kind_of (Sequence k) = 2

abbrev pub head_of : Body → List ℕ
head_of b = length_of b ∷ 0 ∷ kind_of b ∷ 0 ∷ []

abbrev pub Heads : List ℕ → Body → Type 0
Heads s b = Fits b × (s ≡ head_of b)

abbrev pub SaysHead : List ℕ → Result Body Fault → Type 0
SaysHead given r = Says Heads (λ b. b) (λ _. 4) given 0 r
