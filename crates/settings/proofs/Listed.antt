-- One setting more of those that numbers stand for, and all of them.
use Rattle.std.proofs.Common.{◌≡◌, ℕ, ◌+◌, ◌<◌, List, [], ◌∷◌, map, ◌++◌, length, take, set, get_or, ap, sym, ◌∙◌}
use Rattle.std.proofs.lemmas.List.{take_more, take_more_set, map_push}

module _ {X Y : Type 0} (f : X → Y) where
  pub listed_more : (xs : List X) (ys : List Y) (i : ℕ) (x : X) (d : Y) → i < length xs → i < length ys → f x ≡ get_or ys i d → map f (take i xs) ≡ take i ys → map f (take (i + 1) (set xs i x)) ≡ take (i + 1) ys
  listed_more xs ys i x d h k e same =
      ap (map f) (take_more_set xs i x h) ∙ map_push f (take i xs) x ∙ ap (λ l. l ++ f x ∷ []) same ∙ ap (λ y. take i ys ++ y ∷ []) e ∙ sym (take_more ys i d k)

  pub told_more : (ys : List Y) (xs : List X) (i : ℕ) (y : Y) (d : X) → i < length ys → i < length xs → y ≡ f (get_or xs i d) → take i ys ≡ map f (take i xs) → take (i + 1) (set ys i y) ≡ map f (take (i + 1) xs)
  told_more ys xs i y d h k e same =
      take_more_set ys i y h ∙ ap (λ l. l ++ y ∷ []) same ∙ ap (λ z. map f (take i xs) ++ z ∷ []) e ∙ sym (map_push f (take i xs) (get_or xs i d)) ∙ ap (map f) (sym (take_more xs i d k))
