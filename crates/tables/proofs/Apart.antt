-- In a table with no name twice, each pair's name finds what stands beside it.
use Rattle.std.proofs.Common.{◌≡◌, ℕ, true, false, not, List, [], ◌∷◌, is_some, Some, refl, ap, ◌∙◌, ⊎_elim}
use Rattle.std.specs.List.{AllByRecursion}
use Rattle.std.specs.Str.{bytes_eq}
use Rattle.std.proofs.lemmas.Slice.Eq.{bytes_eq-Decides}
use Rattle.std.proofs.ByRecursion.{All-weaker}
use Rattle.std.proofs.lemmas.Bool.{and_parts, both_ways, cases_Bool, cond-true, cond-false, not-true}
use Rattle.tables.specs.Tables.{bears, apart, Table}

-- where n finds nothing, a name that finds something is another
other : {A : Type 0} (es : List (List ℕ × A)) (n s : List ℕ) (x : A) → is_some (bears es n) ≡ false → bears es s ≡ Some x → bytes_eq n s ≡ false
other {A = A} es n s x h e = ⊎_elim same (λ f. f) (cases_Bool (bytes_eq n s))
  where
    same : bytes_eq n s ≡ true → bytes_eq n s ≡ false
    same t =
        let q : is_some (bears es n) ≡ true = ap (λ (m : List ℕ). is_some (bears es m)) ((bytes_eq-Decides n s).0 t) ∙ ap is_some e in
        absurd (both_ways (is_some (bears es n)) h q)

each : {A : Type 0} (es : List (List ℕ × A)) → apart es ≡ true → AllByRecursion (λ e. bears es e.0 ≡ Some e.1) es
each [] h = tt
each {A = A} (e ∷ es) h =
    let p = and_parts (not (is_some (bears es e.0))) (apart es) h in
    let absent = not-true (is_some (bears es e.0)) p.0 in
    let first = cond-true (bytes_eq e.0 e.0) (Some e.1) (bears es e.0) ((bytes_eq-Decides e.0 e.0).1 refl) in
    let later : (d : List ℕ × A) → bears es d.0 ≡ Some d.1 → bears (e ∷ es) d.0 ≡ Some d.1 =
    λ d k. cond-false (bytes_eq e.0 d.0) (Some e.1) (bears es d.0) (other es e.0 d.0 d.1 absent k) ∙ k in
    (first, All-weaker (λ d. bears es d.0 ≡ Some d.1) (λ d. bears (e ∷ es) d.0 ≡ Some d.1) later es (each es p.1))

pub table : {A : Type 0} (es : List (List ℕ × A)) → apart es ≡ true → Table es
table es h = record { names = h; each = each es h }
