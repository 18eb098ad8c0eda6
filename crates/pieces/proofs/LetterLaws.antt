-- Characters in UTF-8, byte by byte.
use Rattle.std.proofs.Common.{◌≡◌, ℕ, ◌+◌, ◌-◌, ◌*◌, ◌/◌, ◌%◌, ◌<◌, ◌≤◌, true, cond, ◌&&◌, ltb, leb, ◌⊎◌, List, [], ◌∷◌, ◌++◌, length, get_or, drop, IsErrAnd, Ok, Err, Result, sym, subst, refl, ap, ◌∙◌, inl, inr, arith}
use lib.Utf8.{scalar, encode, scalar_cases, low_scalar}
use Rattle.std.proofs.lemmas.Bool.{cases_lt, lt-ltb, le-ltb, le-leb, and_from}
use Rattle.pieces.specs.Languages.{Taken, Takes, whole, part, nothing}
use Rattle.std.proofs.lemmas.Str.{encode_ascii}
use Rattle.pieces.specs.declared.found.Fault.{Fault}
use Rattle.pieces.specs.declared.found.Fault.TheVariants.{Short, Unknown}
use Rattle.pieces.specs.declared.found.Letter.{Letter}
use Rattle.pieces.specs.Letters.{One, Two, Three, Four, Plain, Characters, Spells, Trails}

-- bytes at the front of a row
pub none : (g : List ℕ) → length g ≡ 0 → g ≡ []
none [] h = refl
none (a ∷ g) h = absurd (omega arith)

pub from_1 : (g : List ℕ) → 0 < length g → g ≡ get_or g 0 0 ∷ drop 1 g
from_1 [] h = absurd (omega arith)
from_1 (a ∷ g) h = refl

pub from_2 : (g : List ℕ) → 1 < length g → g ≡ get_or g 0 0 ∷ get_or g 1 0 ∷ drop 2 g
from_2 [] h = absurd (omega arith)
from_2 (a ∷ []) h = absurd (omega arith)
from_2 (a ∷ b ∷ g) h = refl

pub from_3 : (g : List ℕ) → 2 < length g → g ≡ get_or g 0 0 ∷ get_or g 1 0 ∷ get_or g 2 0 ∷ drop 3 g
from_3 [] h = absurd (omega arith)
from_3 (a ∷ []) h = absurd (omega arith)
from_3 (a ∷ b ∷ []) h = absurd (omega arith)
from_3 (a ∷ b ∷ c ∷ g) h = refl

pub from_4 : (g : List ℕ) → 3 < length g → g ≡ get_or g 0 0 ∷ get_or g 1 0 ∷ get_or g 2 0 ∷ get_or g 3 0 ∷ drop 4 g
from_4 [] h = absurd (omega arith)
from_4 (a ∷ []) h = absurd (omega arith)
from_4 (a ∷ b ∷ []) h = absurd (omega arith)
from_4 (a ∷ b ∷ c ∷ []) h = absurd (omega arith)
from_4 (a ∷ b ∷ c ∷ d ∷ g) h = refl

pub just_1 : (g : List ℕ) → 0 < length g → length g < 2 → g ≡ get_or g 0 0 ∷ []
just_1 [] h k = absurd (omega arith)
just_1 (a ∷ []) h k = refl
just_1 (a ∷ b ∷ g) h k = absurd (omega arith)

pub just_2 : (g : List ℕ) → 1 < length g → length g < 3 → g ≡ get_or g 0 0 ∷ get_or g 1 0 ∷ []
just_2 [] h k = absurd (omega arith)
just_2 (a ∷ []) h k = absurd (omega arith)
just_2 (a ∷ b ∷ []) h k = refl
just_2 (a ∷ b ∷ c ∷ g) h k = absurd (omega arith)

pub just_3 : (g : List ℕ) → 2 < length g → length g < 4 → g ≡ get_or g 0 0 ∷ get_or g 1 0 ∷ get_or g 2 0 ∷ []
just_3 [] h k = absurd (omega arith)
just_3 (a ∷ []) h k = absurd (omega arith)
just_3 (a ∷ b ∷ []) h k = absurd (omega arith)
just_3 (a ∷ b ∷ c ∷ []) h k = refl
just_3 (a ∷ b ∷ c ∷ d ∷ g) h k = absurd (omega arith)

-- two bytes
two_made : (a b : ℕ) → 194 ≤ a → a < 224 → 128 ≤ b → b < 192 → Two (a ∷ b ∷ []) ((a - 192) * 64 + (b - 128))
two_made a b h k i j =
    let c : ℕ = (a - 192) * 64 + (b - 128) in
    let x : a ≡ 192 + ((a - 192) * 64 + (b - 128)) / 64 = omega arith in
    let y : b ≡ 128 + ((a - 192) * 64 + (b - 128)) % 64 = omega arith in
    (omega arith, omega arith, cc (x, y))

pub two_short : (a : ℕ) → 194 ≤ a → a < 224 → Takes Two (a ∷ []) part
two_short a h k = ((a - 192) * 64 + (128 - 128), 128 ∷ [], omega arith, two_made a 128 h k (omega arith) (omega arith))

pub two_whole : (a b : ℕ) (g : List ℕ) → 194 ≤ a → a < 224 → 128 ≤ b → b < 192 → Takes Two (a ∷ b ∷ g) (whole ((a - 192) * 64 + (b - 128)) g)
two_whole a b g h k i j = (a ∷ b ∷ [], two_made a b h k i j, refl)

pub two_none : (a b : ℕ) (g : List ℕ) → (b < 128) ⊎ (192 ≤ b) → Takes Two (a ∷ b ∷ g) nothing
two_none a b g o c s t u p e =
    let x : (192 + c / 64) ∷ (128 + c % 64) ∷ t ≡ a ∷ b ∷ (g ++ u) = ap (λ z. z ++ t) (sym p.2) ∙ e in
    let y : 128 + c % 64 ≡ b = cc (x) in
    elim o [ inl h ↦ omega (arith, y) | inr h ↦ omega (arith, y) ]

-- three bytes
three_made : (a b d : ℕ) → 224 ≤ a → a < 240 → 128 ≤ b → b < 192 → 128 ≤ d → d < 192 → 32 ≤ (a - 224) * 64 + (b - 128) → ((a - 224) * 64 + (b - 128) < 864) ⊎ (896 ≤ (a - 224) * 64 + (b - 128)) → Three (a ∷ b ∷ d ∷ []) (((a - 224) * 64 + (b - 128)) * 64 + (d - 128))
three_made a b d h k i j l m low o =
    let c = ((a - 224) * 64 + (b - 128)) * 64 + (d - 128) in
    let x : a ≡ 224 + (((a - 224) * 64 + (b - 128)) * 64 + (d - 128)) / 4096 = omega arith in
    let y : b ≡ 128 + (((a - 224) * 64 + (b - 128)) * 64 + (d - 128)) / 64 % 64 = omega arith in
    let z : d ≡ 128 + (((a - 224) * 64 + (b - 128)) * 64 + (d - 128)) % 64 = omega arith in
    let w : Plain (((a - 224) * 64 + (b - 128)) * 64 + (d - 128)) = elim o [ inl q ↦ inl (omega arith) | inr q ↦ inr (omega arith, omega arith) ] in
    (omega arith, omega arith, w, cc (x, y, z))

pub three_whole : (a b d : ℕ) (g : List ℕ) → 224 ≤ a → a < 240 → 128 ≤ b → b < 192 → 128 ≤ d → d < 192 → 32 ≤ (a - 224) * 64 + (b - 128) → ((a - 224) * 64 + (b - 128) < 864) ⊎ (896 ≤ (a - 224) * 64 + (b - 128)) → Takes Three (a ∷ b ∷ d ∷ g) (whole (((a - 224) * 64 + (b - 128)) * 64 + (d - 128)) g)
three_whole a b d g h k i j l m low o = (a ∷ b ∷ d ∷ [], three_made a b d h k i j l m low o, refl)

pub three_short : (a b : ℕ) → 224 ≤ a → a < 240 → 128 ≤ b → b < 192 → 32 ≤ (a - 224) * 64 + (b - 128) → ((a - 224) * 64 + (b - 128) < 864) ⊎ (896 ≤ (a - 224) * 64 + (b - 128)) → Takes Three (a ∷ b ∷ []) part
three_short a b h k i j low o = (((a - 224) * 64 + (b - 128)) * 64 + (128 - 128), 128 ∷ [], omega arith, three_made a b 128 h k i j (omega arith) (omega arith) low o)

pub three_first : (a : ℕ) → 224 ≤ a → a < 240 → Takes Three (a ∷ []) part
three_first a h k = elim (cases_lt 224 a) [
  | inl q ↦ (((a - 224) * 64 + (128 - 128)) * 64 + (128 - 128), 128 ∷ 128 ∷ [], omega arith, three_made a 128 128 h k (omega arith) (omega arith) (omega arith) (omega arith) (omega arith) (elim (cases_lt a 238) [ inl r ↦ inl (omega arith) | inr r ↦ inr (omega arith) ]))
  | inr q ↦ (((a - 224) * 64 + (160 - 128)) * 64 + (128 - 128), 160 ∷ 128 ∷ [], omega arith, three_made a 160 128 h k (omega arith) (omega arith) (omega arith) (omega arith) (omega arith) (inl (omega arith)))
]

pub three_none_2 : (a b : ℕ) (g : List ℕ) → 224 ≤ a → (b < 128) ⊎ (192 ≤ b) → Takes Three (a ∷ b ∷ g) nothing
three_none_2 a b g h o c s t u p e =
    let x : (224 + c / 4096) ∷ (128 + c / 64 % 64) ∷ (128 + c % 64) ∷ t ≡ a ∷ b ∷ (g ++ u) = ap (λ z. z ++ t) (sym p.3) ∙ e in
    let y : 128 + c / 64 % 64 ≡ b = cc (x) in
    elim o [ inl q ↦ omega (arith, y) | inr q ↦ omega (arith, y) ]

pub three_none_front : (a b : ℕ) (g : List ℕ) → 224 ≤ a → 128 ≤ b → ((a - 224) * 64 + (b - 128) < 32) ⊎ ((864 ≤ (a - 224) * 64 + (b - 128)) × ((a - 224) * 64 + (b - 128) < 896)) → Takes Three (a ∷ b ∷ g) nothing
three_none_front a b g h i o c s t u p e =
    let x : (224 + c / 4096) ∷ (128 + c / 64 % 64) ∷ (128 + c % 64) ∷ t ≡ a ∷ b ∷ (g ++ u) = ap (λ z. z ++ t) (sym p.3) ∙ e in
    let y : 128 + c / 64 % 64 ≡ b = cc (x) in
    let z : 224 + c / 4096 ≡ a = cc (x) in
    let f : (a - 224) * 64 + (b - 128) ≡ c / 64 = omega (arith, y, z) in
    elim o [ inl q ↦ omega (arith, f, p.0) | inr q ↦ elim p.2 [ inl r ↦ omega (arith, f, q.0) | inr r ↦ omega (arith, f, q.1, r.0) ] ]

pub three_none_3 : (a b d : ℕ) (g : List ℕ) → (d < 128) ⊎ (192 ≤ d) → Takes Three (a ∷ b ∷ d ∷ g) nothing
three_none_3 a b d g o c s t u p e =
    let x : (224 + c / 4096) ∷ (128 + c / 64 % 64) ∷ (128 + c % 64) ∷ t ≡ a ∷ b ∷ d ∷ (g ++ u) = ap (λ z. z ++ t) (sym p.3) ∙ e in
    let y : 128 + c % 64 ≡ d = cc (x) in
    elim o [ inl q ↦ omega (arith, y) | inr q ↦ omega (arith, y) ]

-- four bytes
four_made : (a b d f : ℕ) → 240 ≤ a → 128 ≤ b → b < 192 → 128 ≤ d → d < 192 → 128 ≤ f → f < 192 → 16 ≤ (a - 240) * 64 + (b - 128) → (a - 240) * 64 + (b - 128) < 272 → Four (a ∷ b ∷ d ∷ f ∷ []) ((((a - 240) * 64 + (b - 128)) * 64 + (d - 128)) * 64 + (f - 128))
four_made a b d f h i j l m n o low high =
    let x : a ≡ 240 + ((((a - 240) * 64 + (b - 128)) * 64 + (d - 128)) * 64 + (f - 128)) / 262144 = omega arith in
    let y : b ≡ 128 + ((((a - 240) * 64 + (b - 128)) * 64 + (d - 128)) * 64 + (f - 128)) / 4096 % 64 = omega arith in
    let v : d ≡ 128 + (((a - 240) * 64 + (b - 128)) * 64 + (d - 128)) % 64 = omega arith in
    let t : ((a - 240) * 64 + (b - 128)) * 64 + (d - 128) ≡ ((((a - 240) * 64 + (b - 128)) * 64 + (d - 128)) * 64 + (f - 128)) / 64 = omega arith in
    let z : d ≡ 128 + ((((a - 240) * 64 + (b - 128)) * 64 + (d - 128)) * 64 + (f - 128)) / 64 % 64 = v ∙ ap (λ x. 128 + x % 64) t in
    let w : f ≡ 128 + ((((a - 240) * 64 + (b - 128)) * 64 + (d - 128)) * 64 + (f - 128)) % 64 = omega arith in
    (omega arith, omega arith, cc (x, y, z, w))

pub four_whole : (a b d f : ℕ) (g : List ℕ) → 240 ≤ a → 128 ≤ b → b < 192 → 128 ≤ d → d < 192 → 128 ≤ f → f < 192 → 16 ≤ (a - 240) * 64 + (b - 128) → (a - 240) * 64 + (b - 128) < 272 → Takes Four (a ∷ b ∷ d ∷ f ∷ g) (whole ((((a - 240) * 64 + (b - 128)) * 64 + (d - 128)) * 64 + (f - 128)) g)
four_whole a b d f g h i j l m n o low high = (a ∷ b ∷ d ∷ f ∷ [], four_made a b d f h i j l m n o low high, refl)

pub four_short_3 : (a b d : ℕ) → 240 ≤ a → 128 ≤ b → b < 192 → 128 ≤ d → d < 192 → 16 ≤ (a - 240) * 64 + (b - 128) → (a - 240) * 64 + (b - 128) < 272 → Takes Four (a ∷ b ∷ d ∷ []) part
four_short_3 a b d h i j l m low high = ((((a - 240) * 64 + (b - 128)) * 64 + (d - 128)) * 64 + (128 - 128), 128 ∷ [], omega arith, four_made a b d 128 h i j l m (omega arith) (omega arith) low high)

pub four_short_2 : (a b : ℕ) → 240 ≤ a → 128 ≤ b → b < 192 → 16 ≤ (a - 240) * 64 + (b - 128) → (a - 240) * 64 + (b - 128) < 272 → Takes Four (a ∷ b ∷ []) part
four_short_2 a b h i j low high = ((((a - 240) * 64 + (b - 128)) * 64 + (128 - 128)) * 64 + (128 - 128), 128 ∷ 128 ∷ [], omega arith, four_made a b 128 128 h i j (omega arith) (omega arith) (omega arith) (omega arith) low high)

pub four_first : (a : ℕ) → 240 ≤ a → a < 245 → Takes Four (a ∷ []) part
four_first a h k = elim (cases_lt 240 a) [
  | inl q ↦ ((((a - 240) * 64 + (128 - 128)) * 64 + (128 - 128)) * 64 + (128 - 128), 128 ∷ 128 ∷ 128 ∷ [], omega arith, four_made a 128 128 128 h (omega arith) (omega arith) (omega arith) (omega arith) (omega arith) (omega arith) (omega arith) (omega arith))
  | inr q ↦ ((((a - 240) * 64 + (144 - 128)) * 64 + (128 - 128)) * 64 + (128 - 128), 144 ∷ 128 ∷ 128 ∷ [], omega arith, four_made a 144 128 128 h (omega arith) (omega arith) (omega arith) (omega arith) (omega arith) (omega arith) (omega arith) (omega arith))
]

pub four_none_2 : (a b : ℕ) (g : List ℕ) → (b < 128) ⊎ (192 ≤ b) → Takes Four (a ∷ b ∷ g) nothing
four_none_2 a b g o c s t u p e =
    let x : (240 + c / 262144) ∷ (128 + c / 4096 % 64) ∷ (128 + c / 64 % 64) ∷ (128 + c % 64) ∷ t ≡ a ∷ b ∷ (g ++ u) = ap (λ z. z ++ t) (sym p.2) ∙ e in
    let y : 128 + c / 4096 % 64 ≡ b = cc (x) in
    elim o [ inl q ↦ omega (arith, y) | inr q ↦ omega (arith, y) ]

pub four_none_front : (a b : ℕ) (g : List ℕ) → 240 ≤ a → 128 ≤ b → ((a - 240) * 64 + (b - 128) < 16) ⊎ (272 ≤ (a - 240) * 64 + (b - 128)) → Takes Four (a ∷ b ∷ g) nothing
four_none_front a b g h i o c s t u p e =
    let x : (240 + c / 262144) ∷ (128 + c / 4096 % 64) ∷ (128 + c / 64 % 64) ∷ (128 + c % 64) ∷ t ≡ a ∷ b ∷ (g ++ u) = ap (λ z. z ++ t) (sym p.2) ∙ e in
    let y : 128 + c / 4096 % 64 ≡ b = cc (x) in
    let z : 240 + c / 262144 ≡ a = cc (x) in
    let f : (a - 240) * 64 + (b - 128) ≡ c / 4096 = omega (arith, y, z) in
    elim o [ inl q ↦ omega (arith, f, p.0) | inr q ↦ omega (arith, f, p.1) ]

pub four_none_3 : (a b d : ℕ) (g : List ℕ) → (d < 128) ⊎ (192 ≤ d) → Takes Four (a ∷ b ∷ d ∷ g) nothing
four_none_3 a b d g o c s t u p e =
    let x : (240 + c / 262144) ∷ (128 + c / 4096 % 64) ∷ (128 + c / 64 % 64) ∷ (128 + c % 64) ∷ t ≡ a ∷ b ∷ d ∷ (g ++ u) = ap (λ z. z ++ t) (sym p.2) ∙ e in
    let y : 128 + c / 64 % 64 ≡ d = cc (x) in
    elim o [ inl q ↦ omega (arith, y) | inr q ↦ omega (arith, y) ]

pub four_none_4 : (a b d f : ℕ) (g : List ℕ) → (f < 128) ⊎ (192 ≤ f) → Takes Four (a ∷ b ∷ d ∷ f ∷ g) nothing
four_none_4 a b d f g o c s t u p e =
    let x : (240 + c / 262144) ∷ (128 + c / 4096 % 64) ∷ (128 + c / 64 % 64) ∷ (128 + c % 64) ∷ t ≡ a ∷ b ∷ d ∷ f ∷ (g ++ u) = ap (λ z. z ++ t) (sym p.2) ∙ e in
    let y : 128 + c % 64 ≡ f = cc (x) in
    elim o [ inl q ↦ omega (arith, y) | inr q ↦ omega (arith, y) ]

-- the bytes of a character, by their number
pub encode_two : (c : ℕ) → 128 ≤ c → c < 2048 → encode c ≡ (192 + c / 64) ∷ (128 + c % 64) ∷ []
unfolding encode
encode_two c h k = simp (le-ltb c 128 h, lt-ltb c 2048 k)

pub encode_three : (c : ℕ) → 2048 ≤ c → c < 65536 → encode c ≡ (224 + c / 4096) ∷ (128 + c / 64 % 64) ∷ (128 + c % 64) ∷ []
unfolding encode
encode_three c h k = simp (le-ltb c 128 (omega arith), le-ltb c 2048 h, lt-ltb c 65536 k)

pub encode_four : (c : ℕ) → 65536 ≤ c → encode c ≡ (240 + c / 262144) ∷ (128 + c / 4096 % 64) ∷ (128 + c / 64 % 64) ∷ (128 + c % 64) ∷ []
unfolding encode
encode_four c h = simp (le-ltb c 128 (omega arith), le-ltb c 2048 (omega arith), le-ltb c 65536 h)

-- a character's bytes are of one of the four forms
pub plain_scalar : (c : ℕ) → Plain c → scalar c ≡ true
plain_scalar c (inl h) = low_scalar c h
plain_scalar c (inr h) = ap (λ x. cond x true (leb 57344 c && ltb c 1114112)) (le-ltb c 55296 (omega (arith, h.0))) ∙ and_from (leb 57344 c) (ltb c 1114112) (le-leb 57344 c h.0) (lt-ltb c 1114112 h.1)

abbrev Forms : List ℕ → ℕ → Type 0
Forms s c = One s c ⊎ (Two s c ⊎ (Three s c ⊎ Four s c))

pub spelled : (c : ℕ) (s : List ℕ) → Forms s c → (c ≡ 27 → ⊥) → Characters s c
spelled c s p o = elim p [
  | inl q ↦ (plain_scalar c (inl (omega (arith, q.0))), o, q.1 ∙ sym (encode_ascii c q.0))
  | inr r ↦ elim r [
    | inl q ↦ (plain_scalar c (inl (omega (arith, q.1))), o, q.2 ∙ sym (encode_two c q.0 q.1))
    | inr r ↦ elim r [
      | inl q ↦ (plain_scalar c q.2, o, q.3 ∙ sym (encode_three c q.0 q.1))
      | inr q ↦ (plain_scalar c (inr (omega (arith, q.0), q.1)), o, q.2 ∙ sym (encode_four c q.0))
    ]
  ]
]

forms : (c : ℕ) (s : List ℕ) → Characters s c → Forms s c
forms c s p =
    elim (cases_lt c 128) [
      | inl h ↦ inl (h, p.2 ∙ encode_ascii c h)
      | inr h ↦ elim (cases_lt c 2048) [
        | inl k ↦ inr (inl (h, k, p.2 ∙ encode_two c h k))
        | inr k ↦ elim (cases_lt c 65536) [
          | inl i ↦ inr (inr (inl (k, i, scalar_cases c p.0, p.2 ∙ encode_three c k i)))
          | inr i ↦ inr (inr (inr (i, top (scalar_cases c p.0) i, p.2 ∙ encode_four c i)))
        ]
      ]
    ]
  where
    top : Plain c → 65536 ≤ c → c < 1114112
    top (inl h) i = omega arith
    top (inr h) i = h.1

pub letter_empty : Takes Characters [] part
letter_empty = (48, 48 ∷ [], omega arith, spelled 48 (48 ∷ []) (inl (omega arith, refl)) (λ z. omega arith))

-- the first byte tells the form
module _ (a : ℕ) (g : List ℕ) where
  first_of : (c : ℕ) (s t u : List ℕ) → Characters s c → s ++ t ≡ (a ∷ g) ++ u → ((a < 128) × One s c) ⊎ (((194 ≤ a) × (a < 224) × Two s c) ⊎ (((224 ≤ a) × (a < 240) × Three s c) ⊎ ((240 ≤ a) × (a < 245) × Four s c)))
  first_of c s t u p e = elim (forms c s p) [
    | inl q ↦ (let x : c ∷ t ≡ a ∷ (g ++ u) = ap (λ z. z ++ t) (sym q.1) ∙ e in let y : c ≡ a = cc (x) in inl (omega (arith, y, q.0), q))
    | inr r ↦ elim r [
      | inl q ↦ (let x : (192 + c / 64) ∷ (128 + c % 64) ∷ t ≡ a ∷ (g ++ u) = ap (λ z. z ++ t) (sym q.2) ∙ e in let y : 192 + c / 64 ≡ a = cc (x) in inr (inl (omega (arith, y, q.0), omega (arith, y, q.1), q)))
      | inr r ↦ elim r [
        | inl q ↦ (let x : (224 + c / 4096) ∷ (128 + c / 64 % 64) ∷ (128 + c % 64) ∷ t ≡ a ∷ (g ++ u) = ap (λ z. z ++ t) (sym q.3) ∙ e in let y : 224 + c / 4096 ≡ a = cc (x) in inr (inr (inl (omega (arith, y), omega (arith, y, q.1), q))))
        | inr q ↦ (let x : (240 + c / 262144) ∷ (128 + c / 4096 % 64) ∷ (128 + c / 64 % 64) ∷ (128 + c % 64) ∷ t ≡ a ∷ (g ++ u) = ap (λ z. z ++ t) (sym q.2) ∙ e in let y : 240 + c / 262144 ≡ a = cc (x) in inr (inr (inr (omega (arith, y), omega (arith, y, q.1), q))))
      ]
    ]
  ]

  pub letter_none : (128 ≤ a) → (a < 194) ⊎ (245 ≤ a) → Takes Characters (a ∷ g) nothing
  letter_none h o c s t u p e = elim (first_of c s t u p e) [
    | inl q ↦ omega (arith, q.0)
    | inr r ↦ elim r [
      | inl q ↦ elim o [ inl k ↦ omega (arith, q.0) | inr k ↦ omega (arith, q.1) ]
      | inr r ↦ elim r [
        | inl q ↦ elim o [ inl k ↦ omega (arith, q.0) | inr k ↦ omega (arith, q.1) ]
        | inr q ↦ elim o [ inl k ↦ omega (arith, q.0) | inr k ↦ omega (arith, q.1) ]
      ]
    ]
  ]

  -- no character but ESC begins with its byte
  pub escape_none : a ≡ 27 → Takes Characters (a ∷ g) nothing
  escape_none h c s t u p e = elim (first_of c s t u p e) [
    | inl q ↦ (let x : c ∷ t ≡ a ∷ (g ++ u) = ap (λ z. z ++ t) (sym q.1.1) ∙ e in let y : c ≡ a = cc (x) in p.1 (y ∙ h))
    | inr r ↦ elim r [ inl q ↦ omega (arith, q.0) | inr r ↦ elim r [ inl q ↦ omega (arith, q.0) | inr q ↦ omega (arith, q.0) ] ]
  ]

  pub one_whole : a < 128 → (a ≡ 27 → ⊥) → Takes Characters (a ∷ g) (whole a g)
  one_whole h o = (a ∷ [], spelled a (a ∷ []) (inl (h, refl)) o, refl)

  -- the other forms begin with another byte
  module _ (L : List ℕ → ℕ → Type 0) (to : (c : ℕ) (s : List ℕ) → L s c → Characters s c) (from : (c : ℕ) (s t u : List ℕ) → Characters s c → s ++ t ≡ (a ∷ g) ++ u → L s c) where
    pub letter_form : (x : Taken ℕ) → Takes L (a ∷ g) x → Takes Characters (a ∷ g) x
    letter_form (whole c t) p = (p.0, to c p.0 p.1, p.2)
    letter_form part p = (p.0, p.1, p.2, to p.0 ((a ∷ g) ++ p.1) p.3)
    letter_form nothing p = λ c s t u i e. p c s t u (from c s t u i e) e

  pub form_two : 194 ≤ a → a < 224 → (x : Taken ℕ) → Takes Two (a ∷ g) x → Takes Characters (a ∷ g) x
  form_two h k = letter_form Two (λ c s q. spelled c s (inr (inl q)) (λ z. omega (arith, q.0))) (λ c s t u p e. elim (first_of c s t u p e) [
    | inl q ↦ absurd (omega (arith, q.0))
    | inr r ↦ elim r [
      | inl q ↦ q.2
      | inr r ↦ elim r [ inl q ↦ absurd (omega (arith, q.0)) | inr q ↦ absurd (omega (arith, q.0)) ]
    ]
  ])

  pub form_three : 224 ≤ a → a < 240 → (x : Taken ℕ) → Takes Three (a ∷ g) x → Takes Characters (a ∷ g) x
  form_three h k = letter_form Three (λ c s q. spelled c s (inr (inr (inl q))) (λ z. omega (arith, q.0))) (λ c s t u p e. elim (first_of c s t u p e) [
    | inl q ↦ absurd (omega (arith, q.0))
    | inr r ↦ elim r [
      | inl q ↦ absurd (omega (arith, q.1))
      | inr r ↦ elim r [ inl q ↦ q.2 | inr q ↦ absurd (omega (arith, q.0)) ]
    ]
  ])

  pub form_four : 240 ≤ a → (x : Taken ℕ) → Takes Four (a ∷ g) x → Takes Characters (a ∷ g) x
  form_four h = letter_form Four (λ c s q. spelled c s (inr (inr (inr q))) (λ z. omega (arith, q.0))) (λ c s t u p e. elim (first_of c s t u p e) [
    | inl q ↦ absurd (omega (arith, q.0))
    | inr r ↦ elim r [
      | inl q ↦ absurd (omega (arith, q.1))
      | inr r ↦ elim r [ inl q ↦ absurd (omega (arith, q.1)) | inr q ↦ q.2 ]
    ]
  ])

-- one form's result, for a row whose first byte tells the form
pub spells_as : (L : List ℕ → ℕ → Type 0) (given : List ℕ) → ((x : Taken ℕ) → Takes L given x → Takes Characters given x) → (r : Result Letter Fault) → Spells L given r → Spells Characters given r
spells_as L given f (Ok a) p = (f (whole a.code (drop a.next given)) p.0, p.1)
spells_as L given f (Err Short) p = f part p
spells_as L given f (Err Unknown) p = f nothing p

-- what the fault of a further byte says of the whole character
fails_so : (L : List ℕ → ℕ → Type 0) (g : List ℕ) (at : ℕ) → (length g ≤ at → Takes L g part) → (at < length g → (get_or g at 0 < 128) ⊎ (192 ≤ get_or g at 0) → Takes L g nothing) → (r : Result Letter Fault) (e : Fault) → IsErrAnd r (λ x. x ≡ e) → Trails g at (Err e) → Spells L g r
fails_so L g at short none (Ok a) e p q = absurd p
fails_so L g at short none (Err x) e p q = subst (λ y. Spells L g (Err y)) (sym p) (go e q)
  where
    go : (e : Fault) → Trails g at (Err e) → Spells L g (Err e)
    go Short q = short q
    go Unknown q = none q.0 q.1

module _ (g : List ℕ) (some : 0 < length g) where
  pub two_fails : 194 ≤ get_or g 0 0 → get_or g 0 0 < 224 → (r : Result Letter Fault) (e : Fault) → IsErrAnd r (λ x. x ≡ e) → Trails g 1 (Err e) → Spells Two g r
  two_fails low high = fails_so Two g 1 (λ s. subst (λ g. Takes Two g part) (sym (just_1 g some (omega arith))) (two_short (get_or g 0 0) low high)) (λ l o. subst (λ g. Takes Two g nothing) (sym (from_2 g l)) (two_none (get_or g 0 0) (get_or g 1 0) (drop 2 g) o))

  module _ (low : 224 ≤ get_or g 0 0) (high : get_or g 0 0 < 240) where
    pub three_fails_2 : (r : Result Letter Fault) (e : Fault) → IsErrAnd r (λ x. x ≡ e) → Trails g 1 (Err e) → Spells Three g r
    three_fails_2 = fails_so Three g 1 (λ s. subst (λ g. Takes Three g part) (sym (just_1 g some (omega arith))) (three_first (get_or g 0 0) low high)) (λ l o. subst (λ g. Takes Three g nothing) (sym (from_2 g l)) (three_none_2 (get_or g 0 0) (get_or g 1 0) (drop 2 g) low o))

    pub three_fails_3 : (n : ℕ) → Trails g 1 (Ok n) → 32 ≤ (get_or g 0 0 - 224) * 64 + n → ((get_or g 0 0 - 224) * 64 + n < 864) ⊎ (896 ≤ (get_or g 0 0 - 224) * 64 + n) → (r : Result Letter Fault) (e : Fault) → IsErrAnd r (λ x. x ≡ e) → Trails g 2 (Err e) → Spells Three g r
    three_fails_3 n t f o = fails_so Three g 2 (λ s. subst (λ g. Takes Three g part) (sym (just_2 g t.0 (omega arith))) (three_short (get_or g 0 0) (get_or g 1 0) low high t.1 t.2 (omega (arith, t.3)) (elim o [ inl q ↦ inl (omega (arith, t.3)) | inr q ↦ inr (omega (arith, t.3)) ]))) (λ l o. subst (λ g. Takes Three g nothing) (sym (from_3 g l)) (three_none_3 (get_or g 0 0) (get_or g 1 0) (get_or g 2 0) (drop 3 g) o))

  module _ (low : 240 ≤ get_or g 0 0) (high : get_or g 0 0 < 245) where
    pub four_fails_2 : (r : Result Letter Fault) (e : Fault) → IsErrAnd r (λ x. x ≡ e) → Trails g 1 (Err e) → Spells Four g r
    four_fails_2 = fails_so Four g 1 (λ s. subst (λ g. Takes Four g part) (sym (just_1 g some (omega arith))) (four_first (get_or g 0 0) low high)) (λ l o. subst (λ g. Takes Four g nothing) (sym (from_2 g l)) (four_none_2 (get_or g 0 0) (get_or g 1 0) (drop 2 g) o))

    module _ (n : ℕ) (t : Trails g 1 (Ok n)) (f : 16 ≤ (get_or g 0 0 - 240) * 64 + n) (h : (get_or g 0 0 - 240) * 64 + n < 272) where
      pub four_fails_3 : (r : Result Letter Fault) (e : Fault) → IsErrAnd r (λ x. x ≡ e) → Trails g 2 (Err e) → Spells Four g r
      four_fails_3 = fails_so Four g 2 (λ s. subst (λ g. Takes Four g part) (sym (just_2 g t.0 (omega arith))) (four_short_2 (get_or g 0 0) (get_or g 1 0) low t.1 t.2 (omega (arith, t.3)) (omega (arith, t.3)))) (λ l o. subst (λ g. Takes Four g nothing) (sym (from_3 g l)) (four_none_3 (get_or g 0 0) (get_or g 1 0) (get_or g 2 0) (drop 3 g) o))

      pub four_fails_4 : (m : ℕ) → Trails g 2 (Ok m) → (r : Result Letter Fault) (e : Fault) → IsErrAnd r (λ x. x ≡ e) → Trails g 3 (Err e) → Spells Four g r
      four_fails_4 m u = fails_so Four g 3 (λ s. subst (λ g. Takes Four g part) (sym (just_3 g u.0 (omega arith))) (four_short_3 (get_or g 0 0) (get_or g 1 0) (get_or g 2 0) low t.1 t.2 u.1 u.2 (omega (arith, t.3)) (omega (arith, t.3)))) (λ l o. subst (λ g. Takes Four g nothing) (sym (from_4 g l)) (four_none_4 (get_or g 0 0) (get_or g 1 0) (get_or g 2 0) (get_or g 3 0) (drop 4 g) o))
