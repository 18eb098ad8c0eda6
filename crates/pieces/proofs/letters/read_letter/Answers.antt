use Rattle.std.proofs.Common.{get_or, drop, sym, subst, inl, inr, arith}
use Rattle.pieces.specs.Languages.{Takes, part, nothing}
use Rattle.pieces.specs.Letters.{Two, Three, Four, Characters}
use Rattle.pieces.proofs.LetterLaws.{none, from_1, form_two, form_three, form_four, letter_empty, letter_none, escape_none, spells_as}
use Rattle.pieces.proofs.letters.read_letter.Goals as goal

pub returns-in_default : goal.returns-in_default
returns-in_default c = subst (λ g. Takes Characters g part) (sym (none c.args.bytes.now (omega (arith, c.in_default.len_below)))) letter_empty

pub returns-then-b-eq-ESC : goal.returns-then-b-eq-ESC
returns-then-b-eq-ESC c = subst (λ g. Takes Characters g nothing) (sym (from_1 c.args.bytes.now (omega (arith, c.in-len1-up.len_at_least)))) (escape_none (get_or c.args.bytes.now 0 0) (drop 1 c.args.bytes.now) c.if-b-eq-ESC.true)

pub returns-in-194-to-223 : goal.returns-in-194-to-223
returns-in-194-to-223 c =
    let h = c.in-194-to-223 in
    let f = from_1 c.args.bytes.now (omega (arith, c.in-len1-up.len_at_least)) in
    spells_as Two c.args.bytes.now (λ x p. subst (λ g. Takes Characters g x) (sym f) (form_two (get_or c.args.bytes.now 0 0) (drop 1 c.args.bytes.now) (omega (arith, h)) (omega (arith, h)) x (subst (λ g. Takes Two g x) f p))) c.two.result c.two.ensures

pub returns-in-224-to-239 : goal.returns-in-224-to-239
returns-in-224-to-239 c =
    let h = c.in-224-to-239 in
    let f = from_1 c.args.bytes.now (omega (arith, c.in-len1-up.len_at_least)) in
    spells_as Three c.args.bytes.now (λ x p. subst (λ g. Takes Characters g x) (sym f) (form_three (get_or c.args.bytes.now 0 0) (drop 1 c.args.bytes.now) (omega (arith, h)) (omega (arith, h)) x (subst (λ g. Takes Three g x) f p))) c.three.result c.three.ensures

pub returns-in-240-to-244 : goal.returns-in-240-to-244
returns-in-240-to-244 c =
    let h = c.in-240-to-244 in
    let f = from_1 c.args.bytes.now (omega (arith, c.in-len1-up.len_at_least)) in
    spells_as Four c.args.bytes.now (λ x p. subst (λ g. Takes Characters g x) (sym f) (form_four (get_or c.args.bytes.now 0 0) (drop 1 c.args.bytes.now) (omega (arith, h)) x (subst (λ g. Takes Four g x) f p))) c.four.result c.four.ensures

pub returns-in_default-b : goal.returns-in_default-b
returns-in_default-b c =
    let f = from_1 c.args.bytes.now (omega (arith, c.in-len1-up.len_at_least)) in
    subst (λ g. Takes Characters g nothing) (sym f) (letter_none (get_or c.args.bytes.now 0 0) (drop 1 c.args.bytes.now) (omega arith) (inl (omega arith)))

pub returns-in_default-b-2 : goal.returns-in_default-b-2
returns-in_default-b-2 c =
    let f = from_1 c.args.bytes.now (omega (arith, c.in-len1-up.len_at_least)) in
    subst (λ g. Takes Characters g nothing) (sym f) (letter_none (get_or c.args.bytes.now 0 0) (drop 1 c.args.bytes.now) (omega arith) (inr (omega arith)))
