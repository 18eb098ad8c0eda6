-- Numbers of four bytes, the lowest first.
use Rattle.std.specs.Prelude.{◌≡◌, ℕ, Bool, true, not, ◌&&◌, ◌||◌, List, Result, ◌==◌, nat_le}
use Rattle.std.proofs.Math.Utf8.{scalar}
use Rattle.frames.specs.Framing.{le32}
use Rattle.pieces.specs.declared.found.Fault.{Fault}
use Rattle.pieces.specs.Says.{Says}
use Rattle.frame_reading.specs.declared.found.Quad.{Quad}
use Rattle.frame_reading.specs.declared.found.Rule.{Rule}
use Rattle.frame_reading.specs.declared.found.Rule.TheVariants.{Code, Optional, Scalar, Clear}

abbrev pub ok : Rule → ℕ → Bool
ok Code n = nat_le n 1114111
ok Optional n = nat_le n 1114111 || n == 4294967295
ok Scalar n = scalar n
ok Clear n = scalar n && not (n == 27)

abbrev pub Quads : Rule → List ℕ → ℕ → Type 0
Quads rule s n = (ok rule n ≡ true) × (s ≡ le32 n)

abbrev pub SaysQuad : Rule → List ℕ → ℕ → Result Quad Fault → Type 0
SaysQuad rule given at r = Says (Quads rule) (λ q. q.value) (λ q. q.next) given at r
