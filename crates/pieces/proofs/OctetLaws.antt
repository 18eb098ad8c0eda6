-- One byte and what follows it.
use Rattle.std.proofs.Common.{◌≡◌, ℕ, ◌<◌, List, [], ◌∷◌, ◌++◌, length, sym, ap, ◌∙◌, arith, length-append}
use Rattle.pieces.specs.Languages.{Takes, part}
use Rattle.pieces.specs.Octets.{Octets}

pub octet_same : (a b : ℕ) (p q t u : List ℕ) → Octets p a → Octets q b → p ++ t ≡ q ++ u → (a ≡ b) × (t ≡ u)
octet_same a b p q t u x y e =
    let f : a ∷ t ≡ b ∷ u = ap (λ z. z ++ t) (sym x.1) ∙ e ∙ ap (λ z. z ++ u) y.1 in
    (cc (f), cc (f))

-- only the empty row is a part of a byte, and it begins any message
pub octet_starts : {M : Type 0} (L : List ℕ → M → Type 0) (m : M) (s : List ℕ) → L s m → 0 < length s → (given : List ℕ) → Takes Octets given part → Takes L given part
octet_starts L m s i l [] p = (m, s, l, i)
octet_starts L m s i l (x ∷ xs) p =
    let e = simp length-append at (ap length p.3.1) in
    absurd (omega (arith, p.2, e))
