-- A frame tells its report, whatever follows it, and has between 1 and 512 bytes.
use Rattle.std.specs.Prelude.{◌≡◌, ℕ, ◌*◌, ◌/◌, ◌%◌, ◌^◌, ◌<◌, ◌≤◌, true, List, [], ◌∷◌, ◌++◌, length, Some, None, Option, slice_index, refl}
use Rattle.std.proofs.Common.{sym, ap, ◌∙◌, arith}
use Rattle.std.proofs.Math.Utf8.{scalar, scalars, scalar_fits}
use Rattle.std.specs.List.{flat_map}
use Rattle.std.proofs.lemmas.List.{append-nil}
use Rattle.std.proofs.lemmas.Bool.{and_parts}
use Rattle.report.specs.Made.{parted}
use Rattle.report.specs.Meanings.{Meaning, Fields, Sound, Coded, Valid, Clear, text, old, answer, sequence}
use Rattle.report.specs.Endings.{direction_number, last_byte}
use Rattle.report.specs.EndingLaws.{direction_same, last_same}
use Rattle.frames.specs.Framing.{le32, or_none, field_bytes, framed, frame_bytes}

-- four bytes tell a number of 32 bits
pub le32_same : (m n : ℕ) (t u : List ℕ) → m < 2 ^ 32 → n < 2 ^ 32 → le32 m ++ t ≡ le32 n ++ u → (m ≡ n) × (t ≡ u)
le32_same m n t u hm hn e =
    let a : m % 256 ≡ n % 256 = cc in
    let b : m / 256 % 256 ≡ n / 256 % 256 = cc in
    let c : m / 65536 % 256 ≡ n / 65536 % 256 = cc in
    let d : m / 16777216 % 256 ≡ n / 16777216 % 256 = cc in
    (omega arith, cc)

-- a code that is there is below FFFFFFFF
pub or_none-fits : (o : Option ℕ) → Coded o → or_none o < 2 ^ 32
or_none-fits None h = omega arith
or_none-fits (Some n) h = omega arith

pub or_none-same : (o p : Option ℕ) → Coded o → Coded p → or_none o ≡ or_none p → o ≡ p
or_none-same None None h k e = refl
or_none-same None (Some n) h k e = absurd (omega arith)
or_none-same (Some m) None h k e = absurd (omega arith)
or_none-same (Some m) (Some n) h k e = ap Some e

-- as many characters, four bytes for each
pub codes_same : (cs ds t u : List ℕ) → length cs ≡ length ds → scalars cs ≡ true → scalars ds ≡ true → flat_map le32 cs ++ t ≡ flat_map le32 ds ++ u → (cs ≡ ds) × (t ≡ u)
codes_same [] [] t u l v w e = (refl, e)
codes_same [] (d ∷ ds) t u l v w e = absurd (omega arith)
codes_same (c ∷ cs) [] t u l v w e = absurd (omega arith)
codes_same (c ∷ cs) (d ∷ ds) t u l v w e =
    let first = le32_same c d (flat_map le32 cs ++ t) (flat_map le32 ds ++ u) (scalar_fits c (and_parts (scalar c) (scalars cs) v).0) (scalar_fits d (and_parts (scalar d) (scalars ds) w).0) e in
    let rest = codes_same cs ds t u (omega arith) (and_parts (scalar c) (scalars cs) v).1 (and_parts (scalar d) (scalars ds) w).1 first.1 in
    (cc (first.0, rest.0), rest.1)

pub fields_same : (f g : Fields) (t u : List ℕ) → Sound f → Sound g → field_bytes f ++ t ≡ field_bytes g ++ u → (f ≡ g) × (t ≡ u)
fields_same f g t u v w e =
    let a = le32_same f.number g.number _ _ (omega arith) (omega arith) e in
    let b = le32_same (or_none f.shifted) (or_none g.shifted) _ _ (or_none-fits f.shifted v.shifted_fits) (or_none-fits g.shifted w.shifted_fits) a.1 in
    let c = le32_same (or_none f.base) (or_none g.base) _ _ (or_none-fits f.base v.base_fits) (or_none-fits g.base w.base_fits) b.1 in
    let s = or_none-same f.shifted g.shifted v.shifted_fits w.shifted_fits b.0 in
    let p = or_none-same f.base g.base v.base_fits w.base_fits c.0 in
    let i : f.sum ≡ g.sum = cc c.1 in
    let j : direction_number f.direction ≡ direction_number g.direction = cc c.1 in
    let k : last_byte f.last ≡ last_byte g.last = cc c.1 in
    let l : length f.text ≡ length g.text = cc c.1 in
    let r : flat_map le32 f.text ++ t ≡ flat_map le32 g.text ++ u = cc c.1 in
    let x = codes_same f.text g.text t u l v.characters_are w.characters_are r in
    let d = direction_same f.direction g.direction j in
    let h = last_same f.last g.last k in
    let all : parted f.number f.shifted f.base f.sum f.direction f.last f.text ≡ parted g.number g.shifted g.base g.sum g.direction g.last g.text = cc (a.0, s, p, i, d, h, x.0) in
    (all, x.1)

-- the low byte of the kind
abbrev kind : List ℕ → ℕ
kind bs = slice_index bs 2

pub frame_same : (m n : Meaning) (t u : List ℕ) → Valid m → Valid n → frame_bytes m ++ t ≡ frame_bytes n ++ u → (m ≡ n) × (t ≡ u)
frame_same (text c) (text d) t u v w e =
    let r : framed (text c) ++ t ≡ framed (text d) ++ u = cc in
    let p = le32_same c d t u (scalar_fits c v) (scalar_fits d w) (cc) in
    (ap text p.0, p.1)
frame_same (text c) (old d) t u v w e = let k = ap kind e in absurd (omega arith)
frame_same (text c) (answer d) t u v w e = let k = ap kind e in absurd (omega arith)
frame_same (text c) (sequence g) t u v w e = let k = ap kind e in absurd (omega arith)
frame_same (old c) (text d) t u v w e = let k = ap kind e in absurd (omega arith)
frame_same (old c) (old d) t u v w e =
    let p = le32_same c d t u (scalar_fits c v) (scalar_fits d w) (cc) in
    (ap old p.0, p.1)
frame_same (old c) (answer d) t u v w e = let k = ap kind e in absurd (omega arith)
frame_same (old c) (sequence g) t u v w e = let k = ap kind e in absurd (omega arith)
frame_same (answer c) (text d) t u v w e = let k = ap kind e in absurd (omega arith)
frame_same (answer c) (old d) t u v w e = let k = ap kind e in absurd (omega arith)
frame_same (answer c) (answer d) t u v w e = let p : c ≡ d = cc in (ap answer p, cc)
frame_same (answer c) (sequence g) t u v w e = let k = ap kind e in absurd (omega arith)
frame_same (sequence f) (text d) t u v w e = let k = ap kind e in absurd (omega arith)
frame_same (sequence f) (old d) t u v w e = let k = ap kind e in absurd (omega arith)
frame_same (sequence f) (answer d) t u v w e = let k = ap kind e in absurd (omega arith)
frame_same (sequence f) (sequence g) t u v w e =
    let r : field_bytes f ++ t ≡ field_bytes g ++ u = cc in
    let p = fields_same f g t u v w r in
    (ap sequence p.0, p.1)

pub length-codes : (cs : List ℕ) → length (flat_map le32 cs) ≡ 4 * length cs
length-codes [] = refl
length-codes (c ∷ cs) = let ih = length-codes cs in omega arith

pub frame_sized : (m : Meaning) → Valid m → (1 ≤ length (frame_bytes m)) × (length (frame_bytes m) ≤ 512)
frame_sized (text c) v = (omega arith, omega arith)
frame_sized (old c) v = (omega arith, omega arith)
frame_sized (answer n) v = (omega arith, omega arith)
frame_sized (sequence f) v = (omega arith, omega (arith, length-codes f.text))

pub frame_apart : (m n : Meaning) (t : List ℕ) → Valid m → Clear m → Valid n → Clear n → frame_bytes m ++ t ≡ frame_bytes n → m ≡ n
frame_apart m n t v c w d e = (frame_same m n t [] v w (e ∙ sym (append-nil (frame_bytes n)))).0
