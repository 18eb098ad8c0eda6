-- Control codes: what Ctrl makes of a character, and what a control code comes from.
use Rattle.std.specs.Prelude.{ℕ, ◌+◌, cond, ◌&&◌, List, [], ◌∷◌, Some, None, Option, nat_le, nat_lt}

-- what Ctrl makes of a character
abbrev pub controls : List (ℕ × ℕ)
controls =
    (64, 0) ∷ (96, 0) ∷ (32, 0) ∷ (50, 0) ∷ (65, 1) ∷ (97, 1) ∷ (66, 2) ∷ (98, 2)
    ∷ (67, 3) ∷ (99, 3) ∷ (68, 4) ∷ (100, 4) ∷ (69, 5) ∷ (101, 5) ∷ (70, 6) ∷ (102, 6)
    ∷ (71, 7) ∷ (103, 7) ∷ (72, 8) ∷ (104, 8) ∷ (73, 9) ∷ (105, 9) ∷ (74, 10) ∷ (106, 10)
    ∷ (75, 11) ∷ (107, 11) ∷ (76, 12) ∷ (108, 12) ∷ (77, 13) ∷ (109, 13) ∷ (78, 14) ∷ (110, 14)
    ∷ (79, 15) ∷ (111, 15) ∷ (80, 16) ∷ (112, 16) ∷ (81, 17) ∷ (113, 17) ∷ (82, 18) ∷ (114, 18)
    ∷ (83, 19) ∷ (115, 19) ∷ (84, 20) ∷ (116, 20) ∷ (85, 21) ∷ (117, 21) ∷ (86, 22) ∷ (118, 22)
    ∷ (87, 23) ∷ (119, 23) ∷ (88, 24) ∷ (120, 24) ∷ (89, 25) ∷ (121, 25) ∷ (90, 26) ∷ (122, 26)
    ∷ (91, 27) ∷ (51, 27) ∷ (123, 27) ∷ (92, 28) ∷ (52, 28) ∷ (124, 28) ∷ (93, 29) ∷ (53, 29)
    ∷ (125, 29) ∷ (94, 30) ∷ (54, 30) ∷ (126, 30) ∷ (95, 31) ∷ (55, 31) ∷ (47, 31) ∷ (56, 127)
    ∷ (63, 127)
    ∷ []

-- the character whose control code this is: a lower-case letter, or one of @ [ \ ] ^ _
abbrev pub from_control : ℕ → Option ℕ
from_control c = cond (nat_lt c 32) (Some (cond (nat_le 1 c && nat_le c 26) (96 + c) (64 + c))) None
