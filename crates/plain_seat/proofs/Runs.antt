-- One call more of a history, and what the plain seat makes of it.
use Rattle.std.proofs.Common.{◌≡◌, List, [], ◌∷◌, ◌++◌, refl, ap, ◌∙◌}
use Rattle.std.specs.List.{AllByRecursion, flat_map}
use Rattle.std.proofs.lemmas.Grind.{flat_map-append}
use Rattle.plain_seat.specs.Plain.{Terms, Call, Plain, outcome, next, after, replies}

pub joined_joined : {X Y A : Type 0} (f : Y → List A) (g : X → List Y) (xs : List X) → flat_map f (flat_map g xs) ≡ flat_map (λ x. flat_map f (g x)) xs
joined_joined f g [] = refl
joined_joined f g (x ∷ xs) = flat_map-append f (g x) (flat_map g xs) ∙ ap (λ l. flat_map f (g x) ++ l) (joined_joined f g xs)

pub all_append : {X : Type 0} (P : X → Type 0) (xs ys : List X) → AllByRecursion P xs → AllByRecursion P ys → AllByRecursion P (xs ++ ys)
all_append P [] ys a b = b
all_append P (x ∷ xs) ys a b = (a.0, all_append P xs ys a.1 b)

pub all_joined : {X Y : Type 0} (P : X → Type 0) (Q : Y → Type 0) (f : X → List Y) → ((x : X) → P x → AllByRecursion Q (f x)) → (xs : List X) → AllByRecursion P xs → AllByRecursion Q (flat_map f xs)
all_joined P Q f each [] a = tt
all_joined P Q f each (x ∷ xs) a = all_append Q (f x) (flat_map f xs) (each x a.0) (all_joined P Q f each xs a.1)

pub all_map : {X : Type 0} (P Q : X → Type 0) → ((x : X) → P x → Q x) → (xs : List X) → AllByRecursion P xs → AllByRecursion Q xs
all_map P Q each [] a = tt
all_map P Q each (x ∷ xs) a = (each x a.0, all_map P Q each xs a.1)

pub all_both : {X : Type 0} (P Q : X → Type 0) (xs : List X) → AllByRecursion P xs → AllByRecursion Q xs → AllByRecursion (λ x. P x × Q x) xs
all_both P Q [] a b = tt
all_both P Q (x ∷ xs) a b = ((a.0, b.0), all_both P Q xs a.1 b.1)

pub after_push : (m : Terms) (p : Plain) (cs : List Call) (c : Call) → after m p (cs ++ c ∷ []) ≡ next m (after m p cs) c
after_push m p [] c = refl
after_push m p (d ∷ cs) c = after_push m (next m p d) cs c

pub replies_push : (m : Terms) (p : Plain) (cs : List Call) (c : Call) → replies m p (cs ++ c ∷ []) ≡ replies m p cs ++ (outcome m (after m p cs).stacks (after m p cs).count c).reply ∷ []
replies_push m p [] c = refl
replies_push m p (d ∷ cs) c = ap (λ l. (outcome m p.stacks p.count d).reply ∷ l) (replies_push m (next m p d) cs c)
