-- An event with no fault has a key whose text can be told, and an allowed character.
use Rattle.std.proofs.Common.{◌≡◌, ℕ, zero, suc, ◌+◌, ◌≤◌, Bool, true, false, cond, not, ◌||◌, leb, List, [], ◌∷◌, length, is_some, Some, None, IsUtf8, Option, refl, arith}
use Rattle.std.specs.Char.{len_utf8}
use Rattle.std.specs.Str.{chars}
use Rattle.std.proofs.lemmas.Bool.{or_parts, not-false, leb-true}
use Rattle.texts.specs.Texts.{utf8, front, allowed as is_key, place_after}
use Rattle.events.specs.Kinds.{PlainKind, character, composed, numpad, function, numbered, lettered, other}
use Rattle.events.specs.Events.{PlainEvent, Fit}
use Rattle.events.specs.declared.fault.Fault.{Fault}
use Rattle.events.specs.declared.fault.Fault.TheVariants.{NotAllowed, OutOfRange, NotText, TooLong}
use Rattle.events.specs.Faults.{before, too_long, text_fault, char_fault, range_fault, composed_fault, unnamed, part_fault, raw_fault, event_fault, faultless}
use Rattle.texts.proofs.Fronts.{utf8_decides}

-- where there is no such character, there are at most n
few : (at n : ℕ) (cs : List ℕ) → place_after at n cs ≡ None → length cs ≤ n
few at n [] h = omega arith
few at zero (c ∷ cs) h = absurd (let z : ◌≡◌ {A = ℕ} 0 1 = cc in omega arith)
few at (suc n) (c ∷ cs) h = let r = few (at + len_utf8 c) n cs h in omega arith

some_none : {A : Type 0} (x : A) → Some x ≡ None → ⊥
some_none x h = let z : ◌≡◌ {A = ℕ} 0 1 = cc in omega arith

before_none : (a b : Option Fault) → before a b ≡ None → a ≡ None
before_none None b h = refl
before_none (Some f) b h = h

-- a choice that comes to None where its first branch does not took the second
second : (b : Bool) (f : Fault) (o : Option Fault) → cond b (Some f) o ≡ None → (b ≡ false) × (o ≡ None)
second true f o h = absurd (some_none f h)
second false f o h = (refl, h)

first_of : (b : Bool) (f : Fault) (o : Option Fault) → cond b o (Some f) ≡ None → (b ≡ true) × (o ≡ None)
first_of true f o h = (refl, h)
first_of false f o h = absurd (some_none f h)

long_none : (o : Option ℕ) → too_long o ≡ None → o ≡ None
long_none None h = refl
long_none (Some p) h = absurd (some_none (TooLong p) h)

text_fit : (bs : List ℕ) → text_fault bs ≡ None → IsUtf8 bs × (length (chars bs) ≤ 32)
text_fit bs h =
    let p = first_of (utf8 bs) (NotText (front (length bs) bs)) (too_long (place_after 0 32 (chars bs))) h in
    ((utf8_decides bs).0 p.0, few 0 32 (chars bs) (long_none (place_after 0 32 (chars bs)) p.1))

module _ (m l : ℕ) where
  parts : (k : PlainKind) → part_fault k m l ≡ None → (char_fault k ≡ false) × (range_fault k ≡ false) × (composed_fault k ≡ None)
  parts k h =
      let p = second (char_fault k) NotAllowed (cond (range_fault k || unnamed m l) (Some OutOfRange) (composed_fault k)) h in
      let q = second (range_fault k || unnamed m l) OutOfRange (composed_fault k) p.1 in
      (p.0, (or_parts (range_fault k) (unnamed m l) q.0).0, q.1)

  part_fit : (k : PlainKind) → part_fault k m l ≡ None → Fit k
  part_fit (character c) h = tt
  part_fit (composed bs) h = text_fit bs (parts (composed bs) h).2
  part_fit (numpad n) h = leb-true n 9 (not-false (leb n 9) (parts (numpad n) h).1)
  part_fit (function n) h = tt
  part_fit (numbered n) h = tt
  part_fit (lettered x) h = tt
  part_fit other h = tt

pub none_from : (o : Option Fault) → not (is_some o) ≡ true → o ≡ None
none_from None h = refl
none_from (Some f) h = absurd (let z : ◌≡◌ {A = ℕ} 0 1 = cc in omega arith)

own_part : (e : PlainEvent) → faultless e ≡ true → part_fault e.key.kind e.modifiers e.leds ≡ None
own_part e h = before_none (part_fault e.key.kind e.modifiers e.leds) (raw_fault e.raw) (none_from (event_fault e) h)

pub fit : (e : PlainEvent) → faultless e ≡ true → Fit e.key.kind
fit e h = part_fit e.modifiers e.leds e.key.kind (own_part e h)

-- the character of an event with no fault is an allowed one
pub allowed : (e : PlainEvent) (c : ℕ) → faultless e ≡ true → e.key.kind ≡ character c → is_key c ≡ true
allowed e c h k = let p = (parts e.modifiers e.leds e.key.kind (own_part e h)).0 in not-false (is_key c) (rw k at p)
