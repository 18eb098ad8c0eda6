-- The front of a list under a map, with fewer elements or another last one.
use Rattle.std.proofs.Common.{◌≡◌, ℕ, ◌-◌, ◌<◌, ◌≤◌, true, ltb, List, map, length, take, set, sym, ap, ◌∙◌, arith, length-take, rules}
use Rattle.std.proofs.lemmas.List.{length-map, take-take, take-map, map-set, get_or-set_same, same_lists, places}
use Rattle.std.proofs.lemmas.Bool.{cases_eq}
use Rattle.std.proofs.lemmas.Bool.Decides.{nat_tests}
use Rattle.settings.specs.Stack.{popped, topped}

module _ {X : Type 0} (f : X → ℕ) (s : List X) (n : ℕ) (some : 1 ≤ n) (most : n ≤ length s) where
  length-front : length (map f (take n s)) ≡ n
  length-front = rw (length-map, length-take) (omega arith)

  pub popped-front : (k : ℕ) → k < n → map f (take (n - k) s) ≡ popped (map f (take n s)) k
  popped-front k lt =
      let t : ltb k n ≡ true = grind (arith, nat_tests) in
      rw (length-front, t) (sym (take-map f (n - k) (take n s) ∙ ap (map f) (take-take (n - k) n s (omega arith))))

  take-set-last : (x : X) → take n (set s (n - 1) x) ≡ set (take n s) (n - 1) x
  take-set-last x =
      same_lists _ _ (search (rules, places)) (λ k d b. grind (arith, places, get_or-set_same, cases_eq k (n - 1)))

  pub topped-front : (x : X) → map f (take n (set s (n - 1) x)) ≡ topped (map f (take n s)) (f x)
  topped-front x = rw length-front (ap (map f) (take-set-last x) ∙ map-set f (take n s) (n - 1) x)
