-- The US layout as a function from a character's code to the code of its base, and its two laws.
use Rattle.std.specs.Prelude.{◌≡◌, ℕ, ◌+◌, ◌%◌, Bool, true, cond, ◌&&◌, List, [], ◌∷◌, ◌==◌, nat_le}
use Rattle.std.specs.Option.{unwrap_or}
use Rattle.texts.specs.Texts.{allowed}
use Rattle.tables.specs.Tables.{beside}

-- A run of capitals: every code from the first to the last, or every second one, with the distance to its lower-case form.
pub record Run : Type 0 where
  pub first : ℕ
  pub last : ℕ
  pub every : ℕ
  pub add : ℕ

abbrev pub in_run : Run → ℕ → Bool
in_run r c = nat_le r.first c && nat_le c r.last && c % r.every == r.first % r.every

abbrev pub to_lower : List Run → ℕ → ℕ
to_lower [] c = 0
to_lower (r ∷ rs) c = cond (in_run r c) r.add (to_lower rs c)

abbrev pub run : ℕ → ℕ → ℕ → ℕ → Run
run a b k d = record { first = a; last = b; every = k; add = d }

abbrev pub capitals : List Run
capitals =
    run 65 90 1 32 ∷ run 192 214 1 32
    ∷ run 216 222 1 32 ∷ run 1040 1071 1 32
    ∷ run 1024 1039 1 80 ∷ run 256 302 2 1
    ∷ run 306 310 2 1 ∷ run 330 374 2 1
    ∷ run 313 327 2 1 ∷ run 377 381 2 1
    ∷ []

-- the marks that Shift gives, and the one letter whose lower-case form stands before it
abbrev pub marks : List (ℕ × ℕ)
marks =
    (33, 49) ∷ (64, 50) ∷ (35, 51) ∷ (36, 52) ∷ (37, 53) ∷ (94, 54) ∷ (38, 55)
    ∷ (42, 56) ∷ (40, 57) ∷ (41, 48) ∷ (95, 45) ∷ (43, 61) ∷ (126, 96) ∷ (123, 91)
    ∷ (125, 93) ∷ (124, 92) ∷ (58, 59) ∷ (34, 39) ∷ (60, 44) ∷ (62, 46) ∷ (63, 47)
    ∷ (376, 255)
    ∷ []

abbrev pub lowered : ℕ → ℕ
lowered c = c + to_lower capitals c

abbrev pub base_of : ℕ → ℕ
base_of c = unwrap_or (beside marks c) (lowered c)

abbrev pub Rests : Type 0
Rests = (c : ℕ) → base_of (base_of c) ≡ base_of c

abbrev pub Kept : Type 0
Kept = (c : ℕ) → allowed c ≡ true → allowed (base_of c) ≡ true
