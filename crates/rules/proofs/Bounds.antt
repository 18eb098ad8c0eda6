-- The table of the keypad, by a test at each of its places.
use Rattle.std.proofs.Common.{◌≡◌, ℕ, zero, suc, ◌<◌, Bool, true, false, ◌&&◌, eqb, ltb, get_or, Some, None, Option, refl, ap, arith}
use Rattle.std.proofs.lemmas.Bool.Decides.{Decides-below_and, Decides-and, Decides-ltb, Decides-eqb}
use Rattle.rules.specs.Pads.{no_pad, pads, pad_place, pad_number, Placed}

-- no number passes 57426
abbrev fine : ℕ → Bool
fine i = ltb (pad_number i true) 57427 && ltb (pad_number i false) 57427

abbrev fine_below : ℕ → Bool
fine_below zero = true
fine_below (suc n) = fine n && fine_below n

pub low : (i : ℕ) → i < 18 → (pad_number i true < 57427) × (pad_number i false < 57427)
low =
    (Decides-below_and fine (λ i. (pad_number i true < 57427) × (pad_number i false < 57427)) fine_below
    (λ i. Decides-and (ltb (pad_number i true) 57427) (ltb (pad_number i false) 57427) (Decides-ltb (pad_number i true) 57427) (Decides-ltb (pad_number i false) 57427)) refl (λ n. refl) 18).0 refl

-- a number, and one past the table where there is none
abbrev or_past : Option ℕ → ℕ
or_past None = 18
or_past (Some i) = i

abbrev at : ℕ → Option ℕ
at i = pad_place (get_or pads i no_pad).phys

abbrev there : ℕ → Bool
there i = eqb (or_past (at i)) i

abbrev there_below : ℕ → Bool
there_below zero = true
there_below (suc n) = there n && there_below n

all_there : (i : ℕ) → i < 18 → or_past (at i) ≡ i
all_there = (Decides-below_and there (λ i. or_past (at i) ≡ i) there_below (λ i. Decides-eqb (or_past (at i)) i) refl (λ n. refl) 18).0 refl

some_from : (o : Option ℕ) (i : ℕ) → i < 18 → or_past o ≡ i → o ≡ Some i
some_from None i h e = absurd (omega arith)
some_from (Some j) i h e = ap Some e

pub placed : Placed
placed i h = some_from (at i) i h (all_there i h)
