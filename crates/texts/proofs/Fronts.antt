-- The longest front of some bytes that is text.
use Rattle.std.proofs.Common.{◌≡◌, ℕ, zero, suc, ◌<◌, ◌≤◌, true, false, List, length, take, IsUtf8, Bor, Ok, Err, Result, MatchResult, ap, ◌∙◌, Decides, sym, ⊎_elim, arith}
use lib.Utf8.{scalars, encodes}
use Rattle.std.specs.declared.str.Utf8Error.{Utf8Error}
use Rattle.std.specs.Str.{chars, bytes_eq, IsValidUpTo, valid_up_to}
use Rattle.std.specs.Result.{IsErrAnd}
use Rattle.texts.specs.declared.NotText.{NotText}
use Rattle.std.proofs.lemmas.Str.{encodes-chars, scalars-chars}
use Rattle.std.proofs.lemmas.Slice.Eq.{bytes_eq-Decides}
use Rattle.std.proofs.lemmas.Bool.{and_parts, and_from, cases_eq, cases_Bool}
use Rattle.texts.specs.Texts.{utf8, front}

pub utf8_decides : (bs : List ℕ) → Decides (utf8 bs) (IsUtf8 bs)
unfolding utf8
utf8_decides bs = (
  (λ h. let p = and_parts (scalars (chars bs)) (bytes_eq (encodes (chars bs)) bs) h in
      (chars bs, (p.0, (bytes_eq-Decides (encodes (chars bs)) bs).0 p.1))),
  (λ u. and_from (scalars (chars bs)) (bytes_eq (encodes (chars bs)) bs) (scalars-chars bs u) ((bytes_eq-Decides (encodes (chars bs)) bs).1 (encodes-chars bs u))),
)

pub not_utf8 : (bs : List ℕ) → (IsUtf8 bs → ⊥) → utf8 bs ≡ false
not_utf8 bs h = ⊎_elim (λ e. absurd (h ((utf8_decides bs).0 e))) (λ e. e) (cases_Bool (utf8 bs))

pub front_is : (bs : List ℕ) (n m : ℕ) → n ≤ m → IsUtf8 (take n bs) → ((k : ℕ) → n < k → IsUtf8 (take k bs) → ⊥) → front m bs ≡ n
unfolding front
front_is bs n zero h u l = omega arith
front_is bs n (suc m) h u l =
    ⊎_elim
    (λ e. let t : utf8 (take (suc m) bs) ≡ true = (utf8_decides (take (suc m) bs)).1 (rw e at u) in rw t (sym e))
    (λ d. let t : utf8 (take (suc m) bs) ≡ false = not_utf8 (take (suc m) bs) (l (suc m) (omega arith)) in rw t (front_is bs n m (omega arith) u l))
    (cases_eq n (suc m))

-- the answer of the check of bytes, which m says with a fault of our own
pub told : (bs : List ℕ) (r : Result (Bor (List ℕ)) Utf8Error) (m : Result (Bor (List ℕ)) NotText) → MatchResult r (λ s. (s.now ≡ bs) × IsUtf8 bs) (λ e. ¬ (IsUtf8 bs) × IsValidUpTo bs (valid_up_to e)) → MatchResult r (λ s. m ≡ Ok s) (λ e. IsErrAnd m (λ n. n.place ≡ valid_up_to e)) → MatchResult m (λ s. (s.now ≡ bs) × (utf8 bs ≡ true)) (λ e. (utf8 bs ≡ false) × (e.place ≡ front (length bs) bs))
told bs (Ok s) (Ok t) h e = let q : t ≡ s = cc in (ap (λ (x : Bor (List ℕ)). x.now) q ∙ h.0, (utf8_decides bs).1 h.1)
told bs (Ok s) (Err t) h e = cc
told bs (Err f) (Ok t) h e = absurd e
told bs (Err f) (Err n) h e = (not_utf8 bs h.0, e ∙ sym (front_is bs (valid_up_to f) (length bs) (omega arith) h.1.front h.1.longest))
