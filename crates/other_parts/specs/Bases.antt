-- The two laws of this layout. Below 128 a test computes them at each code; from there on a code is its own base.
use Rattle.std.specs.Prelude.{◌≡◌, ℕ, zero, suc, ◌<◌, ◌≤◌, Bool, true, ◌&&◌, ◌⊎◌, ◌==◌, nat_lt, refl}
use Rattle.std.proofs.Common.{sym, ap, subst, ⊎_elim, arith, rules}
use Rattle.std.proofs.lemmas.Bool.{lt-leb}
use Rattle.std.proofs.lemmas.Bool.Decides.{nat_tests, Decides-below_and, Decides-and, Decides-eqb, Decides-ltb}
use Rattle.texts.specs.Texts.{allowed}
use Rattle.other_parts.specs.Unshifted.{base_of}

-- the base of the code is its own base, and no private code
abbrev fine : ℕ → Bool
fine c = base_of (base_of c) == base_of c && nat_lt (base_of c) 57344

abbrev fine_below : ℕ → Bool
fine_below zero = true
fine_below (suc n) = fine n && fine_below n

low : (c : ℕ) → c < 128 → (base_of (base_of c) ≡ base_of c) × (base_of c < 57344)
low =
    (Decides-below_and fine (λ c. (base_of (base_of c) ≡ base_of c) × (base_of c < 57344)) fine_below
    (λ c. Decides-and (base_of (base_of c) == base_of c) (nat_lt (base_of c) 57344) (Decides-eqb (base_of (base_of c)) (base_of c)) (Decides-ltb (base_of c) 57344)) refl (λ n. refl) 128).0 refl

high : (c : ℕ) → 128 ≤ c → base_of c ≡ c
high c h = grind (arith, nat_tests)

split : (c : ℕ) → (c < 128) ⊎ (128 ≤ c)
split c = search rules

pub rests : (c : ℕ) → base_of (base_of c) ≡ base_of c
rests c = ⊎_elim (λ h. (low c h).0) (λ h. ap base_of (high c h)) (split c)

pub kept : (c : ℕ) → allowed c ≡ true → allowed (base_of c) ≡ true
kept c ok =
    ⊎_elim (λ h. let l = (low c h).1 in let e = lt-leb 57344 (base_of c) l in rw e refl) (λ h. subst (λ x. allowed x ≡ true) (sym (high c h)) ok) (split c)
