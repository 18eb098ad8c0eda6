-- The bytes of a clear report tell it, whatever follows them.
use Rattle.std.specs.Prelude.{◌≡◌, ℕ, ◌+◌, ◌*◌, ◌≤◌, Bool, true, false, cond, ◌&&◌, List, [], ◌∷◌, ◌++◌, length, Some, None, decimal, Option, ◌==◌, ◌≢◌, refl}
use Rattle.std.proofs.Common.{sym, ap, ◌∙◌, subst, arith, length-append, inl, inr}
use Rattle.std.proofs.Math.Utf8.{scalar, scalars, scalar_cases, encode}
use Rattle.std.specs.Char.{is_ascii_digit}
use Rattle.std.proofs.lemmas.Bool.{and_parts, eqb-true, eqb-false}
use Rattle.std.proofs.lemmas.List.{append-nil, append_assoc}
use Rattle.std.proofs.lemmas.Str.{encode_same, char_from_byte, length-encode, len_utf8_bounds}
use Rattle.report.specs.declared.ending.Direction.{Direction}
use Rattle.report.specs.declared.ending.Direction.TheVariants.{Press}
use Rattle.report.specs.declared.ending.Last.{Last}
use Rattle.report.specs.declared.ending.Last.TheVariants.{Begin}
use Rattle.report.specs.Made.{parted}
use Rattle.report.specs.Meanings.{Meaning, Fields, Sound, Coded, Suits, Valid, Clear, text, old, answer, sequence}
use Rattle.report.specs.Endings.{direction_number, is_press, is_begin, last_byte}
use Rattle.dialect.specs.KittyBytes.{optional, alternates, event, further, typed, parts, plain, kitty_bytes}
use Rattle.report.specs.EndingLaws.{direction_same, last_same, last_high, last_stops}
use Rattle.dialect.specs.Numbers.{Stops, optional_same, decimal_same, decimal_not, code_short}

-- two lists that begin with different bytes
pub unlike : (x y : ℕ) (xs ys : List ℕ) → x ∷ xs ≡ y ∷ ys → (x == y) ≢ false
unlike x y xs ys e d = eqb-false x y d (cc)

pub scalar_coded : (c : ℕ) → scalar c ≡ true → c ≤ 1114111
scalar_coded c e = elim (scalar_cases c e) [ inl h ↦ omega arith | inr h ↦ omega arith ]

-- the alternate codes, up to the semicolon
alternates_same : (s b s' b' : Option ℕ) (t u : List ℕ) → Coded s → Coded b → Coded s' → Coded b' → alternates s b ++ (59 ∷ t) ≡ alternates s' b' ++ (59 ∷ u) → (s ≡ s') × (b ≡ b') × (t ≡ u)
alternates_same None None None None t u h k h' k' e = (refl, refl, cc)
alternates_same None None (Some s') None t u h k h' k' e = absurd (unlike 59 58 _ _ e refl)
alternates_same None None s' (Some b') t u h k h' k' e = absurd (unlike 59 58 _ _ e refl)
alternates_same (Some s) None None None t u h k h' k' e = absurd (unlike 58 59 _ _ e refl)
alternates_same (Some s) None (Some s') None t u h k h' k' e =
    let r : decimal s ++ (59 ∷ t) ≡ decimal s' ++ (59 ∷ u) = cc in
    let p = optional_same (Some s) (Some s') (59 ∷ t) (59 ∷ u) h h' refl refl r in
    let q : t ≡ u = cc p.1 in
    (p.0, refl, q)
alternates_same (Some s) None s' (Some b') t u h k h' k' e =
    let r : decimal s ++ (59 ∷ t) ≡ (optional s' ++ (58 ∷ decimal b')) ++ (59 ∷ u) = cc in
    let r' : optional (Some s) ++ (59 ∷ t) ≡ optional s' ++ (58 ∷ (decimal b' ++ (59 ∷ u))) = r ∙ simp append_assoc in
    let p = optional_same (Some s) s' (59 ∷ t) (58 ∷ (decimal b' ++ (59 ∷ u))) h h' refl refl r' in
    absurd (unlike 59 58 _ _ p.1 refl)
alternates_same s (Some b) None None t u h k h' k' e = absurd (unlike 58 59 _ _ e refl)
alternates_same s (Some b) (Some s') None t u h k h' k' e =
    let r : decimal s' ++ (59 ∷ u) ≡ (optional s ++ (58 ∷ decimal b)) ++ (59 ∷ t) = cc in
    let r' : optional (Some s') ++ (59 ∷ u) ≡ optional s ++ (58 ∷ (decimal b ++ (59 ∷ t))) = r ∙ simp append_assoc in
    let p = optional_same (Some s') s (59 ∷ u) (58 ∷ (decimal b ++ (59 ∷ t))) h' h refl refl r' in
    absurd (unlike 59 58 _ _ p.1 refl)
alternates_same s (Some b) s' (Some b') t u h k h' k' e =
    let r : (optional s ++ (58 ∷ decimal b)) ++ (59 ∷ t) ≡ (optional s' ++ (58 ∷ decimal b')) ++ (59 ∷ u) = cc in
    let r' = simp append_assoc at r in
    let p = optional_same s s' (58 ∷ (decimal b ++ (59 ∷ t))) (58 ∷ (decimal b' ++ (59 ∷ u))) h h' refl refl r' in
    let q : decimal b ++ (59 ∷ t) ≡ decimal b' ++ (59 ∷ u) = cc p.1 in
    let w = optional_same (Some b) (Some b') (59 ∷ t) (59 ∷ u) k k' refl refl q in
    let x : t ≡ u = cc w.1 in
    (p.0, w.0, x)

alternates_stop : (s b : Option ℕ) (t : List ℕ) → Stops (alternates s b ++ (59 ∷ t))
alternates_stop None None t = refl
alternates_stop (Some s) None t = refl
alternates_stop s (Some b) t = refl

-- the characters after the first, up to the final byte
further_stop : (cs : List ℕ) (l : Last) (t : List ℕ) → Stops (further cs ++ (last_byte l ∷ t))
further_stop [] l t = last_stops l
further_stop (c ∷ cs) l t = refl

further_same : (cs ds : List ℕ) (k l : Last) (t u : List ℕ) → scalars cs ≡ true → scalars ds ≡ true → further cs ++ (last_byte k ∷ t) ≡ further ds ++ (last_byte l ∷ u) → (cs ≡ ds) × (k ≡ l) × (t ≡ u)
further_same [] [] k l t u v w e = let h : last_byte k ≡ last_byte l = cc in (refl, last_same k l h, cc)
further_same [] (d ∷ ds) k l t u v w e = let h : last_byte k ≡ 58 = cc in absurd (omega (arith, last_high k))
further_same (c ∷ cs) [] k l t u v w e = let h : last_byte l ≡ 58 = cc in absurd (omega (arith, last_high l))
further_same (c ∷ cs) (d ∷ ds) k l t u v w e =
    let r : (decimal c ++ further cs) ++ (last_byte k ∷ t) ≡ (decimal d ++ further ds) ++ (last_byte l ∷ u) = cc in
    let p = decimal_same c d (further cs ++ (last_byte k ∷ t)) (further ds ++ (last_byte l ∷ u)) (scalar_coded c (and_parts (scalar c) (scalars cs) v).0) (scalar_coded d (and_parts (scalar d) (scalars ds) w).0) (further_stop cs k t) (further_stop ds l u) (simp append_assoc at r) in
    let q = further_same cs ds k l t u (and_parts (scalar c) (scalars cs) v).1 (and_parts (scalar d) (scalars ds) w).1 p.1 in
    (cc (p.0, q.0), q.1, q.2)

-- the text and the final byte
typed_stop : (cs : List ℕ) (l : Last) (t : List ℕ) → Stops (typed cs ++ (last_byte l ∷ t))
typed_stop [] l t = last_stops l
typed_stop (c ∷ cs) l t = refl

typed_same : (cs ds : List ℕ) (k l : Last) (t u : List ℕ) → scalars cs ≡ true → scalars ds ≡ true → typed cs ++ (last_byte k ∷ t) ≡ typed ds ++ (last_byte l ∷ u) → (cs ≡ ds) × (k ≡ l) × (t ≡ u)
typed_same [] [] k l t u v w e = let h : last_byte k ≡ last_byte l = cc in (refl, last_same k l h, cc)
typed_same [] (d ∷ ds) k l t u v w e = let h : last_byte k ≡ 59 = cc in absurd (omega (arith, last_high k))
typed_same (c ∷ cs) [] k l t u v w e = let h : last_byte l ≡ 59 = cc in absurd (omega (arith, last_high l))
typed_same (c ∷ cs) (d ∷ ds) k l t u v w e =
    let r : (decimal c ++ further cs) ++ (last_byte k ∷ t) ≡ (decimal d ++ further ds) ++ (last_byte l ∷ u) = cc in
    let p = decimal_same c d (further cs ++ (last_byte k ∷ t)) (further ds ++ (last_byte l ∷ u)) (scalar_coded c (and_parts (scalar c) (scalars cs) v).0) (scalar_coded d (and_parts (scalar d) (scalars ds) w).0) (further_stop cs k t) (further_stop ds l u) (simp append_assoc at r) in
    let q = further_same cs ds k l t u (and_parts (scalar c) (scalars cs) v).1 (and_parts (scalar d) (scalars ds) w).1 p.1 in
    (cc (p.0, q.0), q.1, q.2)

-- begins with no colon
Other : List ℕ → Type 0
Other [] = Unit {0}
Other (b ∷ bs) = b ≡ 58 → ⊥

typed_other : (cs : List ℕ) (l : Last) (t : List ℕ) → Other (typed cs ++ (last_byte l ∷ t))
unfolding Other
typed_other [] l t = λ e. omega (arith, last_high l)
typed_other (c ∷ cs) l t = λ e. omega arith

-- the direction's mark, where no colon follows it
marked : Bool → Direction → List ℕ
marked b d = cond b [] (58 ∷ (48 + direction_number d) ∷ [])

marked_same : (b c : Bool) (d e : Direction) (t u : List ℕ) → is_press d ≡ b → is_press e ≡ c → Other t → Other u → marked b d ++ t ≡ marked c e ++ u → (d ≡ e) × (t ≡ u)
unfolding Other marked
marked_same true true d e t u p q h k x = (direction_same d e (eqb-true (direction_number d) 1 p ∙ sym (eqb-true (direction_number e) 1 q)), x)
marked_same true false d e t u p q h k x = absurd (subst Other x h refl)
marked_same false true d e t u p q h k x = absurd (subst Other (sym x) k refl)
marked_same false false d e t u p q h k x =
    let n : 48 + direction_number d ≡ 48 + direction_number e = cc in
    (direction_same d e (omega (arith, n)), cc)

event_same : (d e : Direction) (t u : List ℕ) → Other t → Other u → event d ++ t ≡ event e ++ u → (d ≡ e) × (t ≡ u)
unfolding marked
event_same d e t u h k x = marked_same (is_press d) (is_press e) d e t u refl refl h k x

marked_stop : (b : Bool) (d : Direction) (t : List ℕ) → Stops t → Stops (marked b d ++ t)
unfolding marked
marked_stop true d t h = h
marked_stop false d t h = refl

event_stop : (d : Direction) (t : List ℕ) → Stops t → Stops (event d ++ t)
unfolding marked
event_stop d t h = marked_stop (is_press d) d t h

parts_same : (f g : Fields) (t u : List ℕ) → Sound f → Sound g → parts f ++ t ≡ parts g ++ u → (f ≡ g) × (t ≡ u)
parts_same f g t u v w e =
    let tf = typed f.text ++ (last_byte f.last ∷ t) in
    let tg = typed g.text ++ (last_byte g.last ∷ u) in
    let df = decimal (f.sum + 1) ++ (event f.direction ++ tf) in
    let dg = decimal (g.sum + 1) ++ (event g.direction ++ tg) in
    let r : decimal f.number ++ (alternates f.shifted f.base ++ (59 ∷ df)) ≡ decimal g.number ++ (alternates g.shifted g.base ++ (59 ∷ dg)) = simp append_assoc at e in
    let a = decimal_same f.number g.number _ _ v.number_fits w.number_fits (alternates_stop f.shifted f.base df) (alternates_stop g.shifted g.base dg) r in
    let b = alternates_same f.shifted f.base g.shifted g.base df dg v.shifted_fits v.base_fits w.shifted_fits w.base_fits a.1 in
    let c = decimal_same (f.sum + 1) (g.sum + 1) (event f.direction ++ tf) (event g.direction ++ tg) (omega arith) (omega arith) (event_stop f.direction tf (typed_stop f.text f.last t)) (event_stop g.direction tg (typed_stop g.text g.last u)) b.2 in
    let d = event_same f.direction g.direction tf tg (typed_other f.text f.last t) (typed_other g.text g.last u) c.1 in
    let x = typed_same f.text g.text f.last g.last t u v.characters_are w.characters_are d.1 in
    let i : f.sum ≡ g.sum = omega (arith, c.0) in
    let all : parted f.number f.shifted f.base f.sum f.direction f.last f.text ≡ parted g.number g.shifted g.base g.sum g.direction g.last g.text = cc (a.0, b.0, b.1, i, d.0, x.1, x.0) in
    (all, x.2)

-- there is one report with the short form
plain_is : (f : Fields) → Sound f → plain f ≡ true → f ≡ parted 1 None None 0 Press Begin []
plain_is f v e =
    let a = and_parts (f.number == 1) (is_begin f.last && (is_press f.direction && f.sum == 0)) e in
    let b = and_parts (is_begin f.last) (is_press f.direction && f.sum == 0) a.1 in
    let c = and_parts (is_press f.direction) (f.sum == 0) b.1 in
    let n = eqb-true f.number 1 a.0 in
    let l = last_same f.last Begin (eqb-true (last_byte f.last) 69 b.0) in
    let p = direction_same f.direction Press (eqb-true (direction_number f.direction) 1 c.0) in
    let s = eqb-true f.sum 0 c.1 in
    let h : Suits Begin f = subst (λ k. Suits k f) l v.suits in
    let all : parted f.number f.shifted f.base f.sum f.direction f.last f.text ≡ parted 1 None None 0 Press Begin [] = cc (n, h.0.0, h.0.1, s, p, l, h.0.2) in
    all

-- a sequence after ESC [, in its short form where `a` says so
abbrev pub form : Bool → Fields → List ℕ
form a f = cond a (69 ∷ []) (parts f)

pub parts_not : (f : Fields) (b : ℕ) (t u : List ℕ) → Sound f → is_ascii_digit b ≡ false → parts f ++ t ≢ b ∷ u
parts_not f b t u v nb e = decimal_not f.number b _ u v.number_fits nb (simp append_assoc at e)

form_same : (a b : Bool) (f g : Fields) (t u : List ℕ) → plain f ≡ a → plain g ≡ b → Sound f → Sound g → form a f ++ t ≡ form b g ++ u → (f ≡ g) × (t ≡ u)
form_same true true f g t u p q v w e = (plain_is f v p ∙ sym (plain_is g w q), cc)
form_same true false f g t u p q v w e = absurd (parts_not g 69 u t w refl (sym e))
form_same false true f g t u p q v w e = absurd (parts_not f 69 t u v refl e)
form_same false false f g t u p q v w e = parts_same f g t u v w e

-- no sequence begins as an answer does
pub form_not : (a : Bool) (f : Fields) (t u : List ℕ) → Sound f → form a f ++ t ≢ 63 ∷ u
form_not true f t u v e = unlike 69 63 _ _ e refl
form_not false f t u v e = parts_not f 63 t u v refl e

-- a character's bytes begin with ESC only where it is ESC
pub escape_is : (c : ℕ) (t u : List ℕ) → encode c ++ t ≡ 27 ∷ u → c ≡ 27
escape_is c t u e = char_from_byte (27 ∷ u) t c (sym e) (omega arith) (omega arith)

pub kitty_same : (m n : Meaning) (t u : List ℕ) → Valid m → Clear m → Valid n → Clear n → kitty_bytes m ++ t ≡ kitty_bytes n ++ u → (m ≡ n) × (t ≡ u)
kitty_same (text c) (text d) t u v k w l e = let p = encode_same c d t u e in (ap text p.0, p.1)
kitty_same (text c) (old d) t u v k w l e = absurd l
kitty_same (text c) (answer d) t u v k w l e = absurd (k (escape_is c t _ e))
kitty_same (text c) (sequence g) t u v k w l e = absurd (k (escape_is c t _ e))
kitty_same (old c) n t u v k w l e = absurd k
kitty_same (answer c) (text d) t u v k w l e = absurd (l (escape_is d u _ (sym e)))
kitty_same (answer c) (old d) t u v k w l e = absurd l
kitty_same (answer c) (answer d) t u v k w l e =
    let r : (decimal c ++ (117 ∷ [])) ++ t ≡ (decimal d ++ (117 ∷ [])) ++ u = cc in
    let p = decimal_same c d (117 ∷ t) (117 ∷ u) (omega arith) (omega arith) refl refl (simp append_assoc at r) in
    let q : t ≡ u = cc p.1 in
    (ap answer p.0, q)
kitty_same (answer c) (sequence g) t u v k w l e = absurd (form_not (plain g) g u _ w (let r : form (plain g) g ++ u ≡ 63 ∷ ((decimal c ++ (117 ∷ [])) ++ t) = cc in r))
kitty_same (sequence f) (text d) t u v k w l e = absurd (l (escape_is d u _ (sym e)))
kitty_same (sequence f) (old d) t u v k w l e = absurd l
kitty_same (sequence f) (answer d) t u v k w l e = absurd (form_not (plain f) f t _ v (let r : form (plain f) f ++ t ≡ 63 ∷ ((decimal d ++ (117 ∷ [])) ++ u) = cc in r))
kitty_same (sequence f) (sequence g) t u v k w l e =
    let r : form (plain f) f ++ t ≡ form (plain g) g ++ u = cc in
    let p = form_same (plain f) (plain g) f g t u refl refl v w r in
    (ap sequence p.0, p.1)

pub kitty_apart : (m n : Meaning) (t : List ℕ) → Valid m → Clear m → Valid n → Clear n → kitty_bytes m ++ t ≡ kitty_bytes n → m ≡ n
kitty_apart m n t v c w d e = (kitty_same m n t [] v c w d (e ∙ sym (append-nil (kitty_bytes n)))).0

-- lengths
optional_short : (o : Option ℕ) → Coded o → length (optional o) ≤ 7
optional_short None h = omega arith
optional_short (Some n) h = code_short n h

alternates_short : (s b : Option ℕ) → Coded s → Coded b → length (alternates s b) ≤ 16
alternates_short None None h k = omega arith
alternates_short (Some s) None h k = omega (arith, code_short s h)
alternates_short s (Some b) h k = simp length-append (omega (arith, optional_short s h, code_short b k))

further_short : (cs : List ℕ) → scalars cs ≡ true → length (further cs) ≤ 8 * length cs
further_short [] v = omega arith
further_short (c ∷ cs) v =
    let ih = further_short cs (and_parts (scalar c) (scalars cs) v).1 in
    simp length-append (omega (arith, code_short c (scalar_coded c (and_parts (scalar c) (scalars cs) v).0)))

typed_short : (cs : List ℕ) → scalars cs ≡ true → length (typed cs) ≤ 8 * length cs
typed_short [] v = omega arith
typed_short (c ∷ cs) v =
    simp length-append (omega (arith, further_short cs (and_parts (scalar c) (scalars cs) v).1, code_short c (scalar_coded c (and_parts (scalar c) (scalars cs) v).0)))

marked_short : (b : Bool) (d : Direction) → length (marked b d) ≤ 2
unfolding marked
marked_short true d = omega arith
marked_short false d = omega arith

event_short : (d : Direction) → length (event d) ≤ 2
unfolding marked
event_short d = marked_short (is_press d) d

parts_short : (f : Fields) → Sound f → length (parts f) ≤ 300
parts_short f v =
    simp length-append (omega (arith, code_short f.number v.number_fits, alternates_short f.shifted f.base v.shifted_fits v.base_fits, code_short (f.sum + 1) (omega arith), event_short f.direction, typed_short f.text v.characters_are))

form_short : (a : Bool) (f : Fields) → Sound f → length (form a f) ≤ 300
form_short true f v = omega arith
form_short false f v = parts_short f v

pub kitty_sized : (m : Meaning) → Valid m → (1 ≤ length (kitty_bytes m)) × (length (kitty_bytes m) ≤ 512)
kitty_sized (text c) v = (omega (arith, length-encode c, len_utf8_bounds c), omega (arith, length-encode c, len_utf8_bounds c))
kitty_sized (old c) v = (omega arith, omega (arith, length-encode c, len_utf8_bounds c))
kitty_sized (answer n) v = (omega arith, simp length-append (omega (arith, code_short n (omega arith))))
kitty_sized (sequence f) v = (omega arith, omega (arith, form_short (plain f) f v))
