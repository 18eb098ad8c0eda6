-- What every sequence of an event bears: the sum of its modifiers, its direction and its text.
use Rattle.std.specs.Prelude.{ℕ, List, [], None, Option}
use Rattle.report.specs.declared.ending.Direction.{Direction}
use Rattle.report.specs.declared.ending.Last.{Last}
use Rattle.report.specs.Letters.{spelled}
use Rattle.report.specs.Meanings.{Meaning}
use Rattle.report.specs.Made.{bare_key, full_key}
use Rattle.rules.specs.declared.stroke.Stroke.{Stroke}

pub record PlainStroke : Type 0 where
  pub sum : ℕ
  pub direction : Direction
  pub text : List ℕ

abbrev pub plain_stroke : Stroke → PlainStroke
plain_stroke s = record { sum = s.sum; direction = s.direction; text = spelled s.letters.spelling }

-- a number and a final alone
abbrev pub bare : ℕ → Last → PlainStroke → Meaning
bare n last s = bare_key n last s.sum s.direction

-- the final u, with a shifted and a base code where there are any, and the text
abbrev pub full : ℕ → Option ℕ → Option ℕ → PlainStroke → Meaning
full n shifted base s = full_key n shifted base s.sum s.direction s.text

-- the final u, and no codes or text
abbrev pub wordless : ℕ → PlainStroke → Meaning
wordless n s = full_key n None None s.sum s.direction []
