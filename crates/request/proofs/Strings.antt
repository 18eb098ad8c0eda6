-- One byte more of a string.
use Rattle.std.proofs.Common.{◌≡◌, ℕ, List, [], ◌∷◌, ◌++◌, sym, refl, ap, ◌∙◌, subst}
use Rattle.std.proofs.lemmas.List.{append_assoc, append-nil}
use Rattle.request.specs.declared.State.{State}
use Rattle.request.specs.Steps.{Answer, step}
use Rattle.request.specs.Reading.{Ended, Turn, left, says, ended, Reads, Hears}
use Rattle.request.proofs.Turns.{comes}

read_on : (p bs q : List ℕ) (es : List Ended) (b : ℕ) → Reads p bs es q → (t : Turn q b) → Reads p (bs ++ b ∷ []) (es ++ says t) (left t)
read_on p [] q es b r t =
    subst (λ x. (u : Turn x b) → Reads p (b ∷ []) (es ++ says u) (left u)) (sym r.1)
    (λ u. (u, [], ap (λ l. l ++ says u) r.0 ∙ sym (append-nil (says u)), (refl, refl))) t
read_on p (x ∷ bs) q es b r t =
    (r.0, r.1 ++ says t, ap (λ l. l ++ says t) r.2 ∙ append_assoc (says r.0) r.1 (says t), read_on (left r.0) bs q r.1 b r.3 t)

pub hears : (s u : State) (a : Answer) (b : ℕ) → (u, a) ≡ step s b → (bs : List ℕ) (es : List Ended) → Hears s bs es → Hears u (bs ++ b ∷ []) (es ++ ended a)
hears s u a b e bs es h =
    let t = comes s h.begun b h.pending in
    subst (λ x. Hears x.0 (bs ++ b ∷ []) (es ++ ended x.1)) (sym e)
    (record { begun = left t.0; reads = subst (λ l. Reads [] (bs ++ b ∷ []) (es ++ l) (left t.0)) t.1 (read_on [] bs h.begun es b h.reads t.0); pending = t.2 })
