-- What is left of a text between white space.
use Rattle.std.proofs.Common.{◌≡◌, ℕ, ◌+◌, ◌-◌, ◌≤◌, Bool, true, List, [], ◌∷◌, ◌++◌, reverse, length, take, drop, IsUtf8, sym, refl, ap, ◌∙◌, append_assoc, append-nil, arith, length-append}
use lib.Utf8.{scalar, encode, encodes}
use Rattle.std.specs.Char.{is_whitespace, is_not_whitespace}
use Rattle.std.specs.Str.{NonePass, NoCharPasses, EmptyOrStartsWithPassing, EmptyOrEndsWithPassing, chars as decodes}
use Rattle.std.proofs.lemmas.List.{reverse-append, reverse-reverse, take-append-drop, take_at}
use Rattle.std.proofs.lemmas.Bool.{not-true, not-false}
use Rattle.std.proofs.lemmas.Str.{IsCharBoundary-at_seam, IsCharBoundary-from_take, chars-append, chars_from_encodes, chars-nil, chars_past_char, encodes-chars, length-encode, IsUtf8-drop, IsUtf8-encode, IsUtf8-past_char, IsUtf8-take}
use Rattle.texts.specs.Texts.{bare, blank, trim}

fails_append : (p : ℕ → Bool) (xs ys : List ℕ) → NonePass p xs → NonePass p ys → NonePass p (xs ++ ys)
fails_append p [] ys h k = k
fails_append p (x ∷ xs) ys h k = (h.0, fails_append p xs ys h.1 k)

fails_reverse : (p : ℕ → Bool) (xs : List ℕ) → NonePass p xs → NonePass p (reverse xs)
fails_reverse p [] h = tt
fails_reverse p (x ∷ xs) h = rw (reverse-append (x ∷ []) xs) (fails_append p (reverse xs) (x ∷ []) (fails_reverse p xs h.1) (h.0, tt))

-- white space at the front goes
bare_past : (ws ds : List ℕ) → NonePass is_not_whitespace ws → bare (ws ++ ds) ≡ bare ds
bare_past [] ds h = refl
bare_past (c ∷ ws) ds h = rw (not-false (is_whitespace c) h.0) (bare_past ws ds h.1)

blank_past : (ws ds : List ℕ) → NonePass is_not_whitespace ws → blank (ws ++ ds) ≡ length (encodes ws) + blank ds
blank_past [] ds h = omega arith
blank_past (c ∷ ws) ds h =
    let t = blank_past ws ds h.1 in
    let n = length-append (encode c) (encodes ws) in
    let m = length-encode c in
    rw (not-false (is_whitespace c) h.0) (omega arith)

-- characters with a dark one in front stay
stays : (c : ℕ) (cs : List ℕ) → is_not_whitespace c ≡ true → (bare (c ∷ cs) ≡ (c ∷ cs)) × (blank (c ∷ cs) ≡ 0)
stays c cs h = let w = not-true (is_whitespace c) h in (rw w refl, rw w refl)

opened : (s rest : List ℕ) → IsUtf8 s → EmptyOrStartsWithPassing is_not_whitespace s rest → (bare (decodes s) ≡ decodes s) × (blank (decodes s) ≡ 0)
opened [] rest u h = rw chars-nil (refl, refl)
opened (b ∷ bs) rest u h =
    let o = h (omega arith) in
    rw (chars_past_char (b ∷ bs) rest o.0 u o.2) (stays o.0 (decodes rest) o.1)

one : (c : ℕ) → scalar c ≡ true → decodes (encode c) ≡ c ∷ []
one c h = chars_past_char (encode c) [] c (IsUtf8-encode c h) (sym (append-nil (encode c))) ∙ ap (λ (cs : List ℕ). c ∷ cs) chars-nil

module _ (s front : List ℕ) (c : ℕ) (u : IsUtf8 s) (e : s ≡ front ++ encode c) (k : scalar c ≡ true) where
  front_utf8 : IsUtf8 front
  front_utf8 =
      let v = IsUtf8-take s (length front) u (IsCharBoundary-at_seam s front (encode c) e (IsUtf8-encode c k)) in
      let t : take (length front) s ≡ front = ap (take (length front)) e ∙ take_at front (encode c) (length front) refl in
      rw t at v

  last_dark : is_not_whitespace c ≡ true → bare (reverse (decodes s)) ≡ reverse (decodes s)
  last_dark h =
      let d : decodes s ≡ decodes front ++ (c ∷ []) = ap decodes e ∙ chars-append front (encode c) front_utf8 ∙ ap (λ (cs : List ℕ). decodes front ++ cs) (one c k) in
      let r : reverse (decodes s) ≡ c ∷ reverse (decodes front) = ap reverse d ∙ reverse-append (decodes front) (c ∷ []) in
      rw r (stays c (reverse (decodes front)) h).0

shut : (s : List ℕ) → IsUtf8 s → EmptyOrEndsWithPassing is_not_whitespace s → bare (reverse (decodes s)) ≡ reverse (decodes s)
shut [] u h = rw chars-nil refl
shut (b ∷ bs) u h = let o = h (omega arith) in last_dark (b ∷ bs) o.1 o.0 u o.3 o.4 o.2

-- characters written out, and the text after them
spelt : (ws f : List ℕ) → IsUtf8 (encodes ws ++ f) → decodes (encodes ws ++ f) ≡ ws ++ decodes f
spelt [] f u = refl
spelt (c ∷ ws) f u =
    let e = append_assoc (encode c) (encodes ws) f in
    chars_past_char (encodes (c ∷ ws) ++ f) (encodes ws ++ f) c u e ∙ ap (λ (cs : List ℕ). c ∷ cs) (spelt ws f (IsUtf8-past_char (encodes (c ∷ ws) ++ f) (encodes ws ++ f) c u e))

-- front is text without the white space before it, and word is front without that behind it
module _ (text front word : List ℕ) (u : IsUtf8 text) (v : IsUtf8 front) (w : IsUtf8 word) (n m : ℕ) (f : front ≡ drop n text) (before : NoCharPasses is_not_whitespace (take n text)) (rest : List ℕ) (opens : EmptyOrStartsWithPassing is_not_whitespace front rest) (e : word ≡ take m front) (fits : m ≤ length front) (behind : NoCharPasses is_not_whitespace (drop m front)) (shuts : EmptyOrEndsWithPassing is_not_whitespace word) where
  whole : text ≡ encodes before.0 ++ front
  whole = sym (take-append-drop n text) ∙ ap (λ (xs : List ℕ). xs ++ drop n text) (sym before.1) ∙ ap (λ (xs : List ℕ). encodes before.0 ++ xs) (sym f)

  chars : decodes text ≡ before.0 ++ decodes front
  chars = ap decodes whole ∙ spelt before.0 front (rw whole at u)

  pub indent : length text - length front ≡ blank (decodes text)
  indent =
      let b = blank_past before.0 (decodes front) before.2 in
      let o = (opened front rest v opens).1 in
      let l = ap length whole ∙ length-append (encodes before.0) front in
      rw chars (omega arith)

  front_chars : decodes front ≡ decodes word ++ behind.0
  front_chars =
      let p = IsUtf8-drop front m v (IsCharBoundary-from_take front m v fits (rw e at w)) in
      let q = chars_from_encodes behind.0 (drop m front) p behind.1 in
      ap decodes (sym (take-append-drop m front)) ∙ ap (λ (xs : List ℕ). decodes (xs ++ drop m front)) (sym e) ∙ chars-append word (drop m front) w ∙ ap (λ (xs : List ℕ). decodes word ++ xs) (sym q)

  pub between : word ≡ trim text
  unfolding trim
  between =
      let a : bare (decodes text) ≡ decodes front = ap bare chars ∙ bare_past before.0 (decodes front) before.2 ∙ (opened front rest v opens).0 in
      let b : reverse (decodes front) ≡ reverse behind.0 ++ reverse (decodes word) = ap reverse front_chars ∙ reverse-append (decodes word) behind.0 in
      let c : bare (reverse (decodes front)) ≡ reverse (decodes word) = ap bare b ∙ bare_past (reverse behind.0) (reverse (decodes word)) (fails_reverse is_not_whitespace behind.0 behind.2) ∙ shut word w shuts in
      rw (a, c, reverse-reverse (decodes word), encodes-chars word w) refl
