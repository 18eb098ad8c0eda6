-- A piece that tells its own end, and what follows it: exact readers of both make an exact reader of the whole.
use Rattle.std.proofs.Common.{◌≡◌, ℕ, ◌<◌, ◌≤◌, List, ◌++◌, length, drop, IsErrAnd, Ok, Err, Result, sym, refl, ap, ◌∙◌, subst, arith, length-append}
use Rattle.std.proofs.lemmas.List.{append_assoc, append_cancel_left}
use Rattle.pieces.specs.declared.found.Fault.{Fault}
use Rattle.pieces.specs.declared.found.Fault.TheVariants.{Short, Unknown}
use Rattle.pieces.specs.Languages.{Taken, Takes, whole, part, nothing}
use Rattle.pieces.specs.Says.{Says}

-- X is the language of the piece, L that of the whole, and Next a says how the whole goes on after the piece a
pub record Chain {A M : Type 0} (X : List ℕ → A → Type 0) (L : List ℕ → M → Type 0) (Next : A → List ℕ → M → Type 0) : Type 0 where
  pub same : (a b : A) (p q t u : List ℕ) → X p a → X q b → p ++ t ≡ q ++ u → (a ≡ b) × (t ≡ u)
  pub form : (m : M) (s : List ℕ) → L s m → (a : A) × (p : List ℕ) × (r : List ℕ) × X p a × (s ≡ p ++ r) × Next a r m
  pub join : (m : M) (a : A) (p r : List ℕ) → X p a → Next a r m → L (p ++ r) m
  pub starts : (given : List ℕ) → Takes X given part → Takes L given part

-- a part of a piece begins a message, where each piece does
pub opened : {A M : Type 0} (X : List ℕ → A → Type 0) (L : List ℕ → M → Type 0) → ((a : A) (p : List ℕ) → X p a → (m : M) × (r : List ℕ) × L (p ++ r) m) → (given : List ℕ) → Takes X given part → Takes L given part
opened X L opens given p =
    let q = opens p.0 (given ++ p.1) p.3 in
    let l : 0 < length (p.1 ++ q.1) = simp length-append (omega (arith, p.2)) in
    (q.0, p.1 ++ q.1, l, subst (λ x. L x q.0) (append_assoc given p.1 q.1) q.2)

module _ {A M : Type 0} {X : List ℕ → A → Type 0} {L : List ℕ → M → Type 0} {Next : A → List ℕ → M → Type 0} (k : Chain X L Next) where
  chain_nothing : (given : List ℕ) → Takes X given nothing → Takes L given nothing
  chain_nothing given p m s t u i e =
      let f = k.form m s i in
      p f.0 f.1 (f.2 ++ t) u f.3 (sym (append_assoc f.1 f.2 t) ∙ ap (λ x. x ++ t) (sym f.4) ∙ e)

  chain_goes : (given rest : List ℕ) (a : A) (x : Taken M) → Takes X given (whole a rest) → Takes (Next a) rest x → Takes L given x
  chain_goes given rest a (whole m t) p q = (p.0 ++ q.0, k.join m a p.0 q.0 p.1 q.1, append_assoc p.0 q.0 t ∙ ap (λ x. p.0 ++ x) q.2 ∙ p.2)
  chain_goes given rest a part p q = (q.0, q.1, q.2, subst (λ x. L x q.0) (sym (append_assoc p.0 rest q.1) ∙ ap (λ x. x ++ q.1) p.2) (k.join q.0 a p.0 (rest ++ q.1) p.1 q.3))
  chain_goes given rest a nothing p q = λ m s t u i e. go m s t u i e
    where
      go : (m : M) (s t u : List ℕ) → L s m → s ++ t ≡ given ++ u → ⊥
      go m s t u i e =
          let f = k.form m s i in
          let r : f.1 ++ (f.2 ++ t) ≡ p.0 ++ (rest ++ u) = sym (append_assoc f.1 f.2 t) ∙ ap (λ x. x ++ t) (sym f.4) ∙ e ∙ ap (λ x. x ++ u) (sym p.2) ∙ append_assoc p.0 rest u in
          let y = k.same f.0 a f.1 p.0 (f.2 ++ t) (rest ++ u) f.3 p.1 r in
          q m f.2 t u (subst (λ b. Next b f.2 m) y.0 f.5) y.1

  -- the same for the results of readers: P is what the reader of the piece answers, R what that of the whole answers
  module _ {P R : Type 0} (piece : P → A) (place : P → ℕ) (value : R → M) (after : R → ℕ) (given : List ℕ) (at : ℕ) where
    -- the fault of the piece, handed on
    pub chain_break : (r : Result R Fault) (e : Fault) → IsErrAnd r (λ x. x ≡ e) → Says X piece place given at (Err e) → Says L value after given at r
    chain_break (Ok a) e p q = absurd p
    chain_break (Err x) e p q = subst (λ y. Says L value after given at (Err y)) (sym p) (go e q)
      where
        go : (e : Fault) → Says X piece place given at (Err e) → Says L value after given at (Err e)
        go Short q = k.starts (drop at given) q
        go Unknown q = chain_nothing (drop at given) q

    module _ (x : P) (p : Says X piece place given at (Ok x)) where
      -- a piece, after which another reader goes on
      pub chain_on : (a : A) → piece x ≡ a → (r : Result R Fault) → Says (Next a) value after given (place x) r → Says L value after given at r
      chain_on a f r q = go r (subst (λ b. Says (Next b) value after given (place x) r) (sym f) q)
        where
          go : (r : Result R Fault) → Says (Next (piece x)) value after given (place x) r → Says L value after given at r
          go (Ok a) q = (chain_goes (drop at given) (drop (place x) given) (piece x) (whole (value a) (drop (after a) given)) p.0 q.0, q.1)
          go (Err Short) q = chain_goes (drop at given) (drop (place x) given) (piece x) part p.0 q
          go (Err Unknown) q = chain_goes (drop at given) (drop (place x) given) (piece x) nothing p.0 q

      -- a piece, after which no message goes on
      pub chain_stop : (a : A) → piece x ≡ a → ((m : M) (s : List ℕ) → Next a s m → ⊥) → Says L value after given at (Err Unknown)
      chain_stop a f h = chain_goes (drop at given) (drop (place x) given) (piece x) nothing p.0 (λ m s t u i _. h m s (subst (λ b. Next b s m) f i))

-- two languages that say the same
takes_same : {M : Type 0} (K L : List ℕ → M → Type 0) → ((m : M) (s : List ℕ) → K s m → L s m) → ((m : M) (s : List ℕ) → L s m → K s m) → (given : List ℕ) (a : Taken M) → Takes K given a → Takes L given a
takes_same K L to from given (whole m t) p = (p.0, to m p.0 p.1, p.2)
takes_same K L to from given part p = (p.0, p.1, p.2, to p.0 (given ++ p.1) p.3)
takes_same K L to from given nothing p = λ m s t u i e. p m s t u (from m s i) e

pub says_same : {R M : Type 0} (value : R → M) (after : R → ℕ) (K L : List ℕ → M → Type 0) → ((m : M) (s : List ℕ) → K s m → L s m) → ((m : M) (s : List ℕ) → L s m → K s m) → (given : List ℕ) (at : ℕ) (r : Result R Fault) → Says K value after given at r → Says L value after given at r
says_same value after K L to from given at (Ok a) p = (takes_same K L to from (drop at given) (whole _ _) p.0, p.1)
says_same value after K L to from given at (Err Short) p = takes_same K L to from (drop at given) part p
says_same value after K L to from given at (Err Unknown) p = takes_same K L to from (drop at given) nothing p

-- what is found, in another language
abbrev pub mapped : {A M : Type 0} → (A → M) → Taken A → Taken M
mapped f (whole a t) = whole (f a) t
mapped f part = part
mapped f nothing = nothing

-- a language within another, after the bytes p
pub embeds : {A M : Type 0} (K : List ℕ → A → Type 0) (L : List ℕ → M → Type 0) (f : A → M) (p given : List ℕ) → ((a : A) (s : List ℕ) → K s a → L (p ++ s) (f a)) → ((m : M) (s t u : List ℕ) → L s m → s ++ t ≡ p ++ (given ++ u) → (a : A) × (r : List ℕ) × K r a × (s ≡ p ++ r)) → (x : Taken A) → Takes K given x → Takes L (p ++ given) (mapped f x)
embeds K L f p given to from (whole a t) q = (p ++ q.0, to a q.0 q.1, append_assoc p q.0 t ∙ ap (λ y. p ++ y) q.2)
embeds K L f p given to from part q = (f q.0, q.1, q.2, subst (λ y. L y (f q.0)) (sym (append_assoc p given q.1)) (to q.0 (given ++ q.1) q.3))
embeds {A = A} K L f p given to from nothing q = λ m s t u i e. only s (from m s t u i (e ∙ append_assoc p given u)) t u e
  where
    only : (s : List ℕ) → (a : A) × (r : List ℕ) × K r a × (s ≡ p ++ r) → (t u : List ℕ) → s ++ t ≡ (p ++ given) ++ u → ⊥
    only s v t u e = q v.0 v.1 t u v.2 (append_cancel_left p (v.1 ++ t) (given ++ u) (sym (append_assoc p v.1 t) ∙ ap (λ y. y ++ t) (sym v.3) ∙ e ∙ append_assoc p given u))

-- the same for the results of readers
module _ {A M P R : Type 0} (K : List ℕ → A → Type 0) (L : List ℕ → M → Type 0) (f : A → M) (p given : List ℕ) (at n : ℕ) (split : drop at given ≡ p ++ drop n given) (to : (a : A) (s : List ℕ) → K s a → L (p ++ s) (f a)) (from : (m : M) (s t u : List ℕ) → L s m → s ++ t ≡ p ++ (drop n given ++ u) → (a : A) × (r : List ℕ) × K r a × (s ≡ p ++ r)) (piece : P → A) (place : P → ℕ) (value : R → M) (after : R → ℕ) where
  embeds_at : (x : Taken A) → Takes K (drop n given) x → Takes L (drop at given) (mapped f x)
  embeds_at x q = subst (λ g. Takes L g (mapped f x)) (sym split) (embeds K L f p (drop n given) to from x q)

  pub embeds_break : (r : Result R Fault) (e : Fault) → IsErrAnd r (λ x. x ≡ e) → Says K piece place given n (Err e) → Says L value after given at r
  embeds_break (Ok a) e i q = absurd i
  embeds_break (Err x) e i q = subst (λ y. Says L value after given at (Err y)) (sym i) (go e q)
    where
      go : (e : Fault) → Says K piece place given n (Err e) → Says L value after given at (Err e)
      go Short q = embeds_at part q
      go Unknown q = embeds_at nothing q

  pub embeds_whole : (x : P) (y : R) → value y ≡ f (piece x) → after y ≡ place x → Says K piece place given n (Ok x) → Says L value after given at (Ok y)
  embeds_whole x y v a q = (subst (λ m. Takes L (drop at given) (whole m (drop (after y) given))) (sym v) (subst (λ k. Takes L (drop at given) (whole (f (piece x)) (drop k given))) (sym a) (embeds_at (whole (piece x) (drop (place x) given)) q.0)), subst (λ k. k ≤ length given) (sym a) q.1)

-- a language within another whose messages are the same
pub embeds_same : {M R : Type 0} (K L : List ℕ → M → Type 0) (p given : List ℕ) (at n : ℕ) → drop at given ≡ p ++ drop n given → ((m : M) (s : List ℕ) → K s m → L (p ++ s) m) → ((m : M) (s t u : List ℕ) → L s m → s ++ t ≡ p ++ (drop n given ++ u) → (a : M) × (r : List ℕ) × K r a × (s ≡ p ++ r)) → (value : R → M) (after : R → ℕ) (r : Result R Fault) → Says K value after given n r → Says L value after given at r
embeds_same K L p given at n split to from value after (Ok x) q = embeds_whole K L (λ m. m) p given at n split to from value after value after x x refl refl q
embeds_same K L p given at n split to from value after (Err e) q = embeds_break K L (λ m. m) p given at n split to from value after value after (Err e) e refl q
