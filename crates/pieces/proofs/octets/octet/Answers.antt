use Rattle.std.proofs.Common.{◌≡◌, ℕ, ◌+◌, ◌<◌, ◌≤◌, List, [], ◌∷◌, ◌++◌, length, get_or, drop, Some, None, Option, MatchOption, sym, refl, ap, ◌∙◌, subst, arith}
use denote.Bor.{Bor}
use Rattle.std.specs.List.{HoldsAt}
use Rattle.std.specs.Option.{option_copied, ok_or}
use Rattle.std.proofs.lemmas.List.{drop_more, drop_all}
use Rattle.pieces.specs.declared.found.Fault.TheVariants.{Short}
use Rattle.pieces.specs.Octets.{SaysOctet}
use Rattle.pieces.proofs.octets.octet.Goals as goal

says : (g : List ℕ) (at : ℕ) → ((i : ℕ) → get_or g i 0 ≤ 255) → (o : Option (Bor ℕ)) → MatchOption o (length g ≤ at) (λ x. (at < length g) × HoldsAt (λ y. x.now ≡ y) g at) → SaysOctet g at (ok_or (option_copied o) Short)
says g at low None h = (0, 0 ∷ [], omega arith, (omega arith, ap (λ (x : List ℕ). x ++ (0 ∷ [])) (drop_all at g h)))
says g at low (Some b) h =
    let is = h.1 0 in
    ((b.now ∷ [], (omega (arith, is, low at), refl), ap (λ k. k ∷ drop (at + 1) g) is ∙ sym (drop_more g at 0 h.0)), omega (arith, h.0))

pub returns : goal.returns
returns c =
    let g = c.args.bytes.now in
    let r = c.ok_or.ensures.value ∙ ap (λ o. ok_or o Short) c.copied.ensures in
    subst (SaysOctet g c.args.at) (sym r) (says g c.args.at (λ i. omega (arith, c.type_inv.bytes i)) c.get.result c.get.ensures.lookup.3)
