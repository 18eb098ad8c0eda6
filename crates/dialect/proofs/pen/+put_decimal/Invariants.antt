use Rattle.std.proofs.Common.{◌≡◌, ◌+◌, ◌<◌, ◌≤◌, [], ◌∷◌, length, decimal, ℕ, ◌-◌, ◌*◌}
use Rattle.std.proofs.Math.Utf8.{encode}
use Rattle.dialect.specs.Puts.{Put, Wrote, Writes}
use Rattle.dialect.proofs.pen.+put_decimal.Given as goal

-- proposed from what the function passes where it calls itself
abbrev pub decreases-put_decimal : goal.decreases-put_decimal
decreases-put_decimal l = l.n
