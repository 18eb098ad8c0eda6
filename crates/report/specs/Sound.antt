-- Tests that a sequence passes, over its parts.
use Rattle.std.specs.Prelude.{ℕ, Bool, true, false, ◌&&◌, Some, None, Option, ◌==◌, nat_le}
use Rattle.report.specs.declared.ending.Last.{Last}
use Rattle.report.specs.declared.ending.Last.TheVariants.{U, Tilde, Up, Down, Right, Left, Begin, End, Home}

-- a code, where there is one, is at most the largest character's
abbrev pub coded : Option ℕ → Bool
coded None = true
coded (Some n) = nat_le n 1114111

abbrev pub absent : Option ℕ → Bool
absent None = true
absent (Some n) = false

-- no shifted code, no base code and no text
abbrev pub bare : Option ℕ → Option ℕ → ℕ → Bool
bare shifted base count = absent shifted && absent base && count == 0

-- only the final u has shifted, base or text; a letter other than u has number 1
abbrev pub suits : Last → ℕ → Option ℕ → Option ℕ → ℕ → Bool
suits U n s b k = true
suits Tilde n s b k = bare s b k
suits Up n s b k = bare s b k && n == 1
suits Down n s b k = bare s b k && n == 1
suits Right n s b k = bare s b k && n == 1
suits Left n s b k = bare s b k && n == 1
suits Begin n s b k = bare s b k && n == 1
suits End n s b k = bare s b k && n == 1
suits Home n s b k = bare s b k && n == 1

-- there is a sequence with these parts
abbrev pub fits : Last → ℕ → Option ℕ → Option ℕ → ℕ → Bool
fits l n s b k = nat_le n 1114111 && coded s && coded b && suits l n s b k
