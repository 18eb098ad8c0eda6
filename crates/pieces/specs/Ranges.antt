-- The numbers that are wanted, and how they grow by a digit.
use Rattle.std.specs.Prelude.{ℕ, ◌+◌, ◌*◌, cond, ◌&&◌, Some, None, Option, nat_le, nat_lt}
use Rattle.pieces.specs.declared.found.Range.{Range}
use Rattle.pieces.specs.declared.found.Range.TheVariants.{Code, Sum, Flags}

abbrev pub least : Range → ℕ
least Code = 0
least Sum = 1
least Flags = 0

abbrev pub most : Range → ℕ
most Code = 1114111
most Sum = 256
most Flags = 31

-- one digit more, where no zero leads and the number stays in range
abbrev pub longer : Option ℕ → ℕ → ℕ → ℕ → Option ℕ
longer None d lo hi = cond (nat_le lo d && nat_le d hi) (Some d) None
longer (Some k) d lo hi = cond (nat_lt 0 k && (nat_le k hi && nat_le (k * 10 + d) hi)) (Some (k * 10 + d)) None
