-- The characters that a spelling gives.
use Rattle.std.specs.Prelude.{ℕ, Bool, cond, not, ◌&&◌, List, [], ◌∷◌, nat_le}
use Rattle.std.specs.Str.{chars}
use Rattle.report.specs.declared.letters.Spelling.{Spelling}
use Rattle.report.specs.declared.letters.Spelling.TheVariants as S

-- Control codes are dropped: those below 32, and those from 128 to 159.
abbrev pub keeps : ℕ → Bool
keeps c = nat_le 32 c && not (nat_le 128 c && nat_le c 159)

abbrev pub shown : List ℕ → List ℕ
shown [] = []
shown (c ∷ cs) = cond (keeps c) (c ∷ shown cs) (shown cs)

abbrev pub spelled : Spelling → List ℕ
spelled S.None = []
spelled (S.One c) = c.code ∷ []
spelled (S.Text s) = shown (chars s.now)
spelled (S.Row r) = r.now
