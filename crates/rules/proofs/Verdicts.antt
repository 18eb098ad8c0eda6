-- Verdicts, and facts that each rule's verdict keeps.
use Rattle.std.proofs.Common.{◌≡◌, ℕ, Some, None, Option, subst, arith}
use Rattle.report.specs.declared.ending.Last.{Last}
use Rattle.report.specs.Meanings.{Meaning}
use Rattle.events.specs.Kinds.{PlainKind, character, composed, numpad, function, numbered, lettered, other}
use Rattle.rules.specs.Laws.{IfTold}
use Rattle.rules.specs.Rules.{Verdict, passes, silent, says, ◌▸◌, told, on_character, on_function, on_numbered, on_lettered}

pub some_same : {A : Type 0} (x y : A) → Some x ≡ Some y → x ≡ y
some_same x y h = cc

pub none_some : {A : Type 0} (x : A) → None ≡ Some x → ⊥
none_some x h = let z : ◌≡◌ {A = ℕ} 0 1 = cc in omega arith

-- P holds of what a verdict says
abbrev pub Says : (Meaning → Type 0) → Verdict → Type 0
Says P passes = Unit {0}
Says P silent = Unit {0}
Says P (says m) = P m

module _ (P : Meaning → Type 0) where
  pub then : (a b : Verdict) → Says P a → Says P b → Says P (a ▸ b)
  then passes b p q = q
  then silent b p q = p
  then (says m) b p q = p

  pub said : (v : Verdict) → Says P v → IfTold P (told v)
  said passes p = p
  said silent p = p
  said (says m) p = p

  -- what holds of all that is told holds of this
  pub of_told : (o : Option Meaning) (m : Meaning) → IfTold P o → o ≡ Some m → P m
  of_told None m p h = absurd (none_some m h)
  of_told (Some n) m p h = subst P (some_same n m h) p

  pub at_character : (k : PlainKind) (f : ℕ → Verdict) → ((c : ℕ) → Says P (f c)) → Says P (on_character k f)
  at_character (character c) f h = h c
  at_character (composed bs) f h = tt
  at_character (numpad n) f h = tt
  at_character (function n) f h = tt
  at_character (numbered n) f h = tt
  at_character (lettered l) f h = tt
  at_character other f h = tt

  pub at_function : (k : PlainKind) (f : ℕ → Verdict) → ((c : ℕ) → Says P (f c)) → Says P (on_function k f)
  at_function (character c) f h = tt
  at_function (composed bs) f h = tt
  at_function (numpad n) f h = tt
  at_function (function n) f h = h n
  at_function (numbered n) f h = tt
  at_function (lettered l) f h = tt
  at_function other f h = tt

  pub at_numbered : (k : PlainKind) (f : ℕ → Verdict) → ((c : ℕ) → Says P (f c)) → Says P (on_numbered k f)
  at_numbered (character c) f h = tt
  at_numbered (composed bs) f h = tt
  at_numbered (numpad n) f h = tt
  at_numbered (function n) f h = tt
  at_numbered (numbered n) f h = h n
  at_numbered (lettered l) f h = tt
  at_numbered other f h = tt

  pub at_lettered : (k : PlainKind) (f : Last → Verdict) → ((l : Last) → Says P (f l)) → Says P (on_lettered k f)
  at_lettered (character c) f h = tt
  at_lettered (composed bs) f h = tt
  at_lettered (numpad n) f h = tt
  at_lettered (function n) f h = tt
  at_lettered (numbered n) f h = tt
  at_lettered (lettered l) f h = h l
  at_lettered other f h = tt
