-- What the rule of plain text says is what a key tells.
use Rattle.std.proofs.Common.{◌≡◌, ℕ, Bool, true, false, Some, None, Option, IfSome, refl, sym, arith}
use Rattle.std.specs.Option.{option_map}
use Rattle.report.specs.declared.scalar.Scalar.{Scalar}
use Rattle.report.specs.Meanings.{Meaning}
use Rattle.events.specs.Kinds.{PlainKind, character, composed, numpad, function, numbered, lettered, other}
use Rattle.events.specs.Events.{PlainEvent}
use Rattle.rules.specs.Rules.{passes, says, plain_text, texts, ruled, tells}

says_passes : (m : Meaning) → says m ≡ passes → ⊥
says_passes m h = let z : ◌≡◌ {A = ℕ} 0 1 = cc in omega arith

-- the rule speaks of a press alone
pressed : (flags : ℕ) (down : Bool) (own : ℕ) (k : PlainKind) (m : Meaning) → says m ≡ texts flags down own k → down ≡ true
pressed flags true own k m h = refl
pressed flags false own (character c) m h = absurd (says_passes m h)
pressed flags false own (composed bs) m h = absurd (says_passes m h)
pressed flags false own (numpad n) m h = absurd (says_passes m h)
pressed flags false own (function n) m h = absurd (says_passes m h)
pressed flags false own (numbered n) m h = absurd (says_passes m h)
pressed flags false own (lettered l) m h = absurd (says_passes m h)
pressed flags false own other m h = absurd (says_passes m h)

pub text_tells : (base : ℕ → ℕ) (flags : ℕ) (e : PlainEvent) (o : Option Scalar) → ruled (option_map plain_text o) ≡ texts flags e.down e.modifiers e.key.kind → IfSome o (λ c. tells base flags e ≡ Some (plain_text c))
text_tells base flags e None h = tt
text_tells base flags e (Some c) h =
    let d = pressed flags e.down e.modifiers e.key.kind (plain_text c) h in
    rw (sym h, d) refl
