-- The letters and the digits of a French keyboard, as a function from a character's code to the code of its base.
use Rattle.std.specs.Prelude.{ℕ, List, [], ◌∷◌}
use Rattle.std.specs.Char.{to_ascii_lowercase}
use Rattle.std.specs.Option.{unwrap_or}
use Rattle.tables.specs.Tables.{beside}

-- the digits that Shift gives: & é " ' ( - è _ ç à
abbrev pub digits : List (ℕ × ℕ)
digits =
    (49, 38) ∷ (50, 233) ∷ (51, 34) ∷ (52, 39) ∷ (53, 40)
    ∷ (54, 45) ∷ (55, 232) ∷ (56, 95) ∷ (57, 231) ∷ (48, 224)
    ∷ []

abbrev pub base_of : ℕ → ℕ
base_of c = unwrap_or (beside digits c) (to_ascii_lowercase c)
