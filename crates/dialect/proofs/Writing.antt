-- Bytes put one after another.
use Rattle.std.proofs.Common.{◌≡◌, ℕ, ◌+◌, ◌≤◌, List, [], ◌∷◌, ◌++◌, length, take, drop, set, sym, refl, ap, ◌∙◌, subst, add-zero, arith, length-append, length-set}
use Rattle.std.proofs.lemmas.List.{append_assoc, take_more_set, drop-set-lt, take-append-drop, take_all}
use Rattle.std.proofs.lemmas.Slice.{put_mid-paste}
use borrow.Rule.Slice.PartMut.{put_mid}
use lib.Seq.{paste}
use Rattle.dialect.specs.declared.pen.Pen.{Pen}
use Rattle.dialect.specs.Puts.{puts, Wrote, Put, Writes}

pub puts_append : (out : List ℕ) (at : ℕ) (xs ys : List ℕ) → puts out at (xs ++ ys) ≡ puts (puts out at xs) (at + length xs) ys
puts_append out at [] ys = ap (λ i. puts out i ys) (sym (add-zero at))
puts_append out at (x ∷ xs) ys =
    let i : at + 1 + length xs ≡ at + length (x ∷ xs) = omega arith in
    puts_append (set out at x) (at + 1) xs ys ∙ ap (λ i. puts (puts (set out at x) (at + 1) xs) i ys) i

pub puts_split : (out : List ℕ) (at : ℕ) (bs : List ℕ) → at + length bs ≤ length out → puts out at bs ≡ take at out ++ (bs ++ drop (at + length bs) out)
puts_split out at [] h = sym (ap (λ i. take at out ++ drop i out) (add-zero at) ∙ take-append-drop at out)
puts_split out at (b ∷ bs) h =
    let ih = puts_split (set out at b) (at + 1) bs (simp length-set (omega arith)) in
    let t = take_more_set out at b (omega arith) in
    let d = drop-set-lt (at + length (b ∷ bs)) out at b (omega arith) in
    let i : at + 1 + length bs ≡ at + length (b ∷ bs) = omega arith in
    ih ∙ simp (t, d, i, append_assoc)

-- the same of a part of the row that was overwritten whole
pub put_mid_puts : (out : List ℕ) (at k : ℕ) (bs : List ℕ) → k ≡ length bs → at + length bs ≤ length out → put_mid at k out bs ≡ puts out at bs
put_mid_puts out at k bs e h =
    let whole : paste out at bs (length bs) ≡ take at out ++ (bs ++ drop (at + length bs) out) = rw (take_all (length bs) bs (omega arith)) (append_assoc (take at out) bs (drop (at + length bs) out)) in
    put_mid-paste at k out bs bs (length bs) refl (sym e) refl ∙ whole ∙ sym (puts_split out at bs h)

pub wrote_more : {a b c : List ℕ} {i j k : ℕ} {xs ys : List ℕ} → Wrote a i xs b j → Wrote b j ys c k → Wrote a i (xs ++ ys) c k
wrote_more {a} {b} {c} {i} {j} {k} {xs} {ys} p q = record {
  place = simp length-append (omega (arith, p.place, q.place));
  row = q.row ∙ ap (λ r. puts r j ys) p.row ∙ ap (λ n. puts (puts a i xs) n ys) p.place ∙ sym (puts_append a i xs ys);
}

pub wrote_front : (a b : List ℕ) (n : ℕ) (bs : List ℕ) → length bs ≤ length a → Wrote a 0 bs b n → (n ≡ length bs) × (b ≡ bs ++ drop n a)
wrote_front a b n bs h w =
    let p : n ≡ length bs = omega (arith, w.place) in
    let z : 0 + length bs ≡ n = omega arith in
    (p, w.row ∙ puts_split a 0 bs (omega arith) ∙ ap (λ i. bs ++ drop i a) z)

pub wrote_as : {a b : List ℕ} {i j : ℕ} {xs ys : List ℕ} → xs ≡ ys → Wrote a i xs b j → Wrote a i ys b j
wrote_as {a} {b} {i} {j} e w = subst (λ zs. Wrote a i zs b j) e w

pub writes_more : {p q r : Pen} {xs ys : List ℕ} → Writes p xs q → Writes q ys r → Writes p (xs ++ ys) r
writes_more v w = record { wrote = wrote_more v.wrote w.wrote; same_row = w.same_row ∙ v.same_row }

pub writes_as : {p q : Pen} {xs ys : List ℕ} → xs ≡ ys → Writes p xs q → Writes p ys q
writes_as {p} {q} e w = subst (λ zs. Writes p zs q) e w

-- the same of bytes that fit into the row
pub writes_put : {p q : Pen} {bs : List ℕ} → p.at + length bs ≤ 512 → Put p.out.now p.at bs q.out.now q.at → q.out.ghost_name ≡ p.out.ghost_name → Writes p bs q
writes_put h put same = record { wrote = put.fits h; same_row = same }

-- what stands in a row after a pen at its front put n bytes
pub written : {p q : Pen} {a bs : List ℕ} {n : ℕ} → p.at ≡ 0 → p.out.now ≡ a → length bs ≤ length a → Writes p bs q → n ≡ q.at → (n ≡ length bs) × (q.out.now ≡ bs ++ drop n a)
written {p} {q} {a} {bs} {n} e r h w i =
    let v : Wrote a 0 bs q.out.now q.at = subst (λ i. Wrote a i bs q.out.now q.at) e (subst (λ o. Wrote o p.at bs q.out.now q.at) r w.wrote) in
    wrote_front a q.out.now n bs h (subst (λ k. Wrote a 0 bs q.out.now k) (sym i) v)
