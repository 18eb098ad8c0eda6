-- A search through a table of the code, one entry after another: for a name, and for a value.
use Rattle.std.proofs.Common.{◌≡◌, ℕ, ◌+◌, ◌<◌, ◌≤◌, Bool, true, false, cond, eqb, List, ◌∷◌, length, get_or, drop, Some, None, sym, refl, ap, ◌∙◌}
use Rattle.std.specs.Str.{bytes_eq}
use Rattle.std.proofs.lemmas.List.{drop_all, drop_more}
use Rattle.std.proofs.lemmas.Bool.{eq-eqb, ne_eqb}
use Rattle.tables.specs.declared.Named.{Named}
use Rattle.tables.specs.Entries.{entries}
use Rattle.tables.specs.Tables.{bears, name_for}

-- x stands at i
module _ {A : Type 0} (t : List (Named A)) (i : ℕ) (x : Named A) (h : i < length t) (at : x ≡ get_or t i x) where
  split : drop i t ≡ x ∷ drop (i + 1) t
  split = drop_more t i x h ∙ ap (λ (y : Named A). y ∷ drop (i + 1) t) (sym at)

  -- b says whether it bears the name s
  module _ (s : List ℕ) (b : Bool) (k : b ≡ bytes_eq x.0.now s) where
    bearer : bears (entries (drop i t)) s ≡ cond b (Some x.1) (bears (entries (drop (i + 1) t)) s)
    bearer = rw (split, k) refl

    pub past : b ≡ false → bears (entries (drop i t)) s ≡ bears (entries (drop (i + 1) t)) s
    past e = let p = bearer in rw e at p

    pub here : b ≡ true → bears (entries (drop i t)) s ≡ Some x.1
    here e = let p = bearer in rw e at p

  -- a and b are the numbers of its value and of another
  module _ (number : A → ℕ) (a b n : ℕ) (k : a ≡ number x.1) (l : b ≡ n) where
    namer : name_for number (entries (drop i t)) n ≡ cond (eqb a b) (Some x.0.now) (name_for number (entries (drop (i + 1) t)) n)
    namer = rw (split, k, l) refl

    pub past_value : (a ≡ b → ⊥) → name_for number (entries (drop i t)) n ≡ name_for number (entries (drop (i + 1) t)) n
    past_value e = let p = namer in rw (ne_eqb a b e) at p

    pub here_value : a ≡ b → name_for number (entries (drop i t)) n ≡ Some x.0.now
    here_value e = let p = namer in rw (eq-eqb a b e) at p

module _ {A : Type 0} (t : List (Named A)) (i : ℕ) (h : length t ≤ i) where
  pub none : (s : List ℕ) → bears (entries (drop i t)) s ≡ None
  none s = rw (drop_all i t h) refl

  pub none_value : (number : A → ℕ) (n : ℕ) → name_for number (entries (drop i t)) n ≡ None
  none_value number n = rw (drop_all i t h) refl
