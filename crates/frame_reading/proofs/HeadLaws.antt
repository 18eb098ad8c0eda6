-- The length and the kind of a frame, and what follows them.
use Rattle.std.proofs.Common.{◌≡◌, ℕ, ◌+◌, ◌*◌, ◌/◌, ◌%◌, ◌<◌, ◌≤◌, eqb, List, [], ◌∷◌, ◌++◌, length, None, sym, refl, ap, ◌∙◌, subst, inl, inr, arith}
use Rattle.std.proofs.lemmas.List.{append-nil}
use lib.Utf8.{scalar}
use Rattle.std.proofs.lemmas.Bool.{and_parts, and_from, eqb-false, ne_eqb, not-true, not_from_false}
use Rattle.report.specs.declared.ending.Direction.TheVariants.{Press}
use Rattle.report.specs.Meanings.{Meaning, Fields, text, old, answer, sequence}
use Rattle.dialect.proofs.StreamLaws.{fronts}
use Rattle.frames.specs.Framing.{le32, field_bytes, framed, frame_bytes}
use Rattle.frames.specs.FrameLaws.{length-codes}
use Rattle.pieces.specs.Languages.{Takes, part, nothing}
use Rattle.pieces.specs.Octets.{Octets}
use Rattle.pieces.specs.Reports.{Spoken}
use Rattle.pieces.proofs.Chains.{Chain, opened}
use Rattle.pieces.proofs.OctetLaws.{octet_same, octet_starts}
use Rattle.sequences.specs.Parts.{headed}
use Rattle.frame_reading.specs.declared.found.Body.{Body}
use Rattle.frame_reading.specs.declared.found.Body.TheVariants.{Text, Answer, Sequence}
use Rattle.frame_reading.specs.Bodies.{AtNumber, InBody}
use Rattle.frame_reading.specs.Heads.{Fits, length_of, kind_of, head_of, Heads}
use Rattle.frame_reading.proofs.BodyLaws.{zeros, zeros_good}

-- the first byte tells what the frame holds
pub body_same : (b c : Body) → Fits b → Fits c → length_of b ≡ length_of c → b ≡ c
body_same Text Text p q e = refl
body_same Text Answer p q e = absurd (omega arith)
body_same Text (Sequence k) p q e = absurd (omega arith)
body_same Answer Text p q e = absurd (omega arith)
body_same Answer Answer p q e = refl
body_same Answer (Sequence k) p q e = absurd (omega arith)
body_same (Sequence k) Text p q e = absurd (omega arith)
body_same (Sequence k) Answer p q e = absurd (omega arith)
body_same (Sequence j) (Sequence k) p q e = let h : j ≡ k = omega arith in ap Sequence h

pub heads_same : (b c : Body) (p q t u : List ℕ) → Heads p b → Heads q c → p ++ t ≡ q ++ u → (b ≡ c) × (t ≡ u)
heads_same b c p q t u x y e =
    let f : head_of b ++ t ≡ head_of c ++ u = ap (λ z. z ++ t) (sym x.1) ∙ e ∙ ap (λ z. z ++ u) y.1 in
    let l : length_of b ≡ length_of c = cc (f) in
    (body_same b c x.0 y.0 l, cc (f))

-- what follows the first byte
abbrev pub after_length : ℕ → List ℕ → Body → Type 0
after_length a s b = Fits b × (length_of b ≡ a) × (s ≡ 0 ∷ kind_of b ∷ 0 ∷ [])

length-byte : (b : Body) → Fits b → length_of b ≤ 255
length-byte Text p = omega arith
length-byte Answer p = omega arith
length-byte (Sequence k) p = omega arith

pub length-chain : Chain Octets Heads after_length
length-chain = record {
  same = octet_same;
  form = λ b s p. (length_of b, length_of b ∷ [], 0 ∷ kind_of b ∷ 0 ∷ [], (length-byte b p.0, refl), p.1, (p.0, refl, refl));
  join = λ b a p r x q. (q.0, ap (λ z. z ++ r) x.1 ∙ cc (q.1, q.2));
  starts = octet_starts Heads Text (head_of Text) (tt, refl) (omega arith);
}

-- the given bytes end within the head
pub head_part : (b : Body) (given v : List ℕ) → Fits b → given ++ v ≡ head_of b → ((w : List ℕ) → head_of b ++ w ≡ given → ⊥) → Takes Heads given part
head_part b given [] p e none = absurd (none [] (sym (sym (append-nil given) ∙ e ∙ sym (append-nil (head_of b)))))
head_part b given (x ∷ v) p e none = (b, x ∷ v, omega arith, (p, e))

-- the given bytes leave the head
pub head_nothing : (b : Body) (a : ℕ) (g : List ℕ) → Fits b → length_of b ≡ a → ((w : List ℕ) → head_of b ++ w ≡ a ∷ g → ⊥) → ((v : List ℕ) → (a ∷ g) ++ v ≡ head_of b → ⊥) → Takes Heads (a ∷ g) nothing
head_nothing b a g fit is after before c s t u p e =
    let f : head_of c ++ t ≡ a ∷ (g ++ u) = ap (λ z. z ++ t) (sym p.1) ∙ e in
    let l : length_of c ≡ a = cc (f) in
    let i = body_same c b p.0 fit (l ∙ sym is) in
    let h : head_of b ++ t ≡ (a ∷ g) ++ u = ap (λ x. head_of x ++ t) (sym i) ∙ f in
    elim (fronts (head_of b) (a ∷ g) t u h) [ inl q ↦ after q.0 q.1 | inr q ↦ before q.0 q.1 ]

low : (n : ℕ) → n < 256 → n % 256 ≡ n
low n h = omega arith

none_high : (n : ℕ) → n < 256 → n / 256 % 256 ≡ 0
none_high n h = omega arith

long : (f : Fields) → length f.text ≤ 32 → length (framed (sequence f)) ≡ 18 + 4 * length f.text
long f h = omega (arith, length-codes f.text)

-- the head of a sequence's frame
sequence_head : (f : Fields) → length f.text ≤ 32 → frame_bytes (sequence f) ≡ head_of (Sequence (length f.text)) ++ field_bytes f
sequence_head f h =
    let n : length (framed (sequence f)) < 256 = omega (arith, long f h) in
    let a : length (framed (sequence f)) % 256 ≡ 18 + 4 * length f.text = low (length (framed (sequence f))) n ∙ long f h in
    let b : length (framed (sequence f)) / 256 % 256 ≡ 0 = none_high (length (framed (sequence f))) n in
    cc (a, b)

frame_form : (m : Meaning) (s : List ℕ) → Spoken frame_bytes s m → (b : Body) × (p : List ℕ) × (r : List ℕ) × Heads p b × (s ≡ p ++ r) × InBody b r m
frame_form (text c) s p = (Text, head_of Text, le32 c, (tt, refl), p.1, (c, refl, (and_from (scalar c) _ p.0.0 (not_from_false (eqb c 27) (ne_eqb c 27 p.0.1)), refl)))
frame_form (old c) s p = absurd p.0.1
frame_form (answer n) s p = (Answer, head_of Answer, n ∷ [], (tt, refl), p.1, (n, refl, p.0.0, refl))
frame_form (sequence f) s p = (Sequence (length f.text), head_of (Sequence (length f.text)), field_bytes f, (p.0.0.few, refl), p.1 ∙ sequence_head f p.0.0.few, (f, refl, ((p.0.0, refl), refl)))

frame_join : (m : Meaning) (b : Body) (p r : List ℕ) → Heads p b → InBody b r m → Spoken frame_bytes (p ++ r) m
frame_join m Text p r x q =
    let e = and_parts (scalar q.0) _ q.2.0 in
    subst (λ n. Spoken frame_bytes (p ++ r) n) (sym q.1) ((e.0, eqb-false q.0 27 (not-true (eqb q.0 27) e.1)), ap (λ z. z ++ r) x.1 ∙ ap (λ z. head_of Text ++ z) q.2.1)
frame_join m Answer p r x q = subst (λ n. Spoken frame_bytes (p ++ r) n) (sym q.1) ((q.2, tt), ap (λ z. z ++ r) x.1 ∙ ap (λ z. head_of Answer ++ z) q.3)
frame_join m (Sequence k) p r x q =
    let f = q.0 in
    let g = q.2.0 in
    subst (λ n. Spoken frame_bytes (p ++ r) n) (sym q.1) ((g.0, tt), ap (λ z. z ++ r) x.1 ∙ ap (λ z. head_of (Sequence k) ++ z) q.2.1 ∙ ap (λ n. head_of (Sequence n) ++ field_bytes f) (sym g.1) ∙ sym (sequence_head f g.0.few))

frame_opens : (b : Body) (p : List ℕ) → Heads p b → (m : Meaning) × (r : List ℕ) × Spoken frame_bytes (p ++ r) m
frame_opens Text p x = (text 0, le32 0, frame_join (text 0) Text p (le32 0) x (0, refl, (refl, refl)))
frame_opens Answer p x = (answer 0, 0 ∷ [], frame_join (answer 0) Answer p (0 ∷ []) x (0, refl, omega arith, refl))
frame_opens (Sequence k) p x =
    let f = zeros (headed 0 None None 0 Press) k in
    (sequence f, field_bytes f, frame_join (sequence f) (Sequence k) p (field_bytes f) x (f, refl, (zeros_good (headed 0 None None 0 Press) k (omega arith, tt, tt, omega arith) x.0, refl)))

pub frame_chain : Chain Heads (Spoken frame_bytes) InBody
frame_chain = record { same = heads_same; form = frame_form; join = frame_join; starts = opened Heads (Spoken frame_bytes) frame_opens }

-- a sequence, as what a frame holds
pub body_to : (k : ℕ) (f : Fields) (s : List ℕ) → AtNumber k s f → InBody (Sequence k) s (sequence f)
body_to k f s p = (f, refl, p)

pub body_from : (k : ℕ) (g : List ℕ) (m : Meaning) (s t u : List ℕ) → InBody (Sequence k) s m → s ++ t ≡ [] ++ (g ++ u) → (f : Fields) × (r : List ℕ) × AtNumber k r f × (s ≡ [] ++ r)
body_from k g m s t u p e = (p.0, s, p.2, refl)
