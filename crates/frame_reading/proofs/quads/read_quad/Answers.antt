use Rattle.std.proofs.Common.{◌≡◌, ℕ, ◌+◌, ◌*◌, ◌<◌, List, [], ◌∷◌, length, get_or, drop, sym, ap, ◌∙◌, subst, arith}
use Rattle.std.proofs.lemmas.List.{get_or-drop, length-drop, drop_all}
use Rattle.pieces.specs.Languages.{Takes, whole, part, nothing}
use Rattle.frame_reading.specs.Quads.{ok, Quads}
use Rattle.frame_reading.proofs.QuadLaws.{quad_short, quad_3, quad_none_3, quad_whole, quad_none_4, view_3, view_4}
use Rattle.frame_reading.proofs.quads.read_quad.Goals as goal

just_three : (g : List ℕ) (at : ℕ) → at + 3 ≡ length g → drop at g ≡ get_or g at 0 ∷ get_or g (at + 1) 0 ∷ get_or g (at + 2) 0 ∷ []
just_three g at e = view_3 g at (omega arith) ∙ ap (λ x. get_or g at 0 ∷ get_or g (at + 1) 0 ∷ get_or g (at + 2) 0 ∷ x) (drop_all (at + 3) g (omega arith))

low_bytes : (g : List ℕ) (at : ℕ) → ((i : ℕ) → get_or g i 0 < 256) → (i : ℕ) → get_or (drop at g) i 0 < 256
low_bytes g at f i = subst (λ x. x < 256) (sym (get_or-drop at g i 0)) (f (at + i))

pub returns-then-left-lt3 : goal.returns-then-left-lt3
returns-then-left-lt3 c =
    let r = c.args.rule in
    let few : length (drop c.args.at c.args.bytes.now) < 3 = omega (arith, length-drop c.args.at c.args.bytes.now) in
    quad_short r (drop c.args.at c.args.bytes.now) few (low_bytes c.args.bytes.now c.args.at (λ i. omega (arith, c.type_inv.bytes i)))

pub returns-then-allowed : goal.returns-then-allowed
returns-then-allowed c =
    let g = c.args.bytes.now in
    let at = c.args.at in
    let r = c.args.rule in
    let a = get_or g at 0 in
    let b = get_or g (at + 1) 0 in
    let d = get_or g (at + 2) 0 in
    let x : get_or g at 0 < 256 = omega (arith, c.type_inv.bytes at) in
    let y : get_or g (at + 1) 0 < 256 = omega (arith, c.type_inv.bytes (at + 1)) in
    let z : get_or g (at + 2) 0 < 256 = omega (arith, c.type_inv.bytes (at + 2)) in
    subst (λ v. Takes (Quads r) v part) (sym (just_three g at (omega arith))) (quad_3 r a b d x y z 0 (omega arith) (ap (ok r) (sym c.with_high.ensures) ∙ sym c.allowed.ensures ∙ c.if-allowed.true))

pub returns-then-allowed-2 : goal.returns-then-allowed-2
returns-then-allowed-2 c =
    let g = c.args.bytes.now in
    let at = c.args.at in
    let r = c.args.rule in
    let a = get_or g at 0 in
    let b = get_or g (at + 1) 0 in
    let d = get_or g (at + 2) 0 in
    let x : get_or g at 0 < 256 = omega (arith, c.type_inv.bytes at) in
    let y : get_or g (at + 1) 0 < 256 = omega (arith, c.type_inv.bytes (at + 1)) in
    let z : get_or g (at + 2) 0 < 256 = omega (arith, c.type_inv.bytes (at + 2)) in
    subst (λ v. Takes (Quads r) v part) (sym (just_three g at (omega arith))) (quad_3 r a b d x y z 255 (omega arith) (ap (ok r) (sym c.with_high-then-left-eq3.ensures) ∙ sym c.allowed-then-left-eq3.ensures ∙ c.if-allowed-2.true))

pub returns-then-left-eq3 : goal.returns-then-left-eq3
returns-then-left-eq3 c =
    let g = c.args.bytes.now in
    let at = c.args.at in
    let r = c.args.rule in
    let a = get_or g at 0 in
    let b = get_or g (at + 1) 0 in
    let d = get_or g (at + 2) 0 in
    let x : get_or g at 0 < 256 = omega (arith, c.type_inv.bytes at) in
    let y : get_or g (at + 1) 0 < 256 = omega (arith, c.type_inv.bytes (at + 1)) in
    let z : get_or g (at + 2) 0 < 256 = omega (arith, c.type_inv.bytes (at + 2)) in
    let low : a + b * 256 + d * 65536 ≡ c.with_high.result = omega (arith, c.with_high.ensures) in
    let high : a + b * 256 + d * 65536 + 4278190080 ≡ c.with_high-then-left-eq3.result = omega (arith, c.with_high-then-left-eq3.ensures) in
    subst (λ v. Takes (Quads r) v nothing) (sym (just_three g at (omega arith))) (quad_none_3 r a b d x y z (ap (ok r) low ∙ sym c.allowed.ensures ∙ c.if-allowed.false) (ap (ok r) high ∙ sym c.allowed-then-left-eq3.ensures ∙ c.if-allowed-2.false))

pub returns-then-allowed-3 : goal.returns-then-allowed-3
returns-then-allowed-3 c =
    let g = c.args.bytes.now in
    let at = c.args.at in
    let r = c.args.rule in
    let a = get_or g at 0 in
    let b = get_or g (at + 1) 0 in
    let d = get_or g (at + 2) 0 in
    let x : get_or g at 0 < 256 = omega (arith, c.type_inv.bytes at) in
    let y : get_or g (at + 1) 0 < 256 = omega (arith, c.type_inv.bytes (at + 1)) in
    let z : get_or g (at + 2) 0 < 256 = omega (arith, c.type_inv.bytes (at + 2)) in
    let f = get_or g (at + 3) 0 in
    let w : get_or g (at + 3) 0 < 256 = omega (arith, c.type_inv.bytes (at + 3)) in
    (subst (λ v. Takes (Quads r) v (whole c.with_high-value.result (drop (at + 4) g))) (sym (view_4 g at (omega arith))) (subst (λ n. Takes (Quads r) (a ∷ b ∷ d ∷ f ∷ drop (at + 4) g) (whole n (drop (at + 4) g))) (sym c.with_high-value.ensures) (quad_whole r a b d x y z f (drop (at + 4) g) w (ap (ok r) (sym c.with_high-value.ensures) ∙ sym c.allowed-2.ensures ∙ c.if-allowed-3.true))), omega arith)

pub returns-else-allowed-3 : goal.returns-else-allowed-3
returns-else-allowed-3 c =
    let g = c.args.bytes.now in
    let at = c.args.at in
    let r = c.args.rule in
    let a = get_or g at 0 in
    let b = get_or g (at + 1) 0 in
    let d = get_or g (at + 2) 0 in
    let x : get_or g at 0 < 256 = omega (arith, c.type_inv.bytes at) in
    let y : get_or g (at + 1) 0 < 256 = omega (arith, c.type_inv.bytes (at + 1)) in
    let z : get_or g (at + 2) 0 < 256 = omega (arith, c.type_inv.bytes (at + 2)) in
    let f = get_or g (at + 3) 0 in
    let w : get_or g (at + 3) 0 < 256 = omega (arith, c.type_inv.bytes (at + 3)) in
    subst (λ v. Takes (Quads r) v nothing) (sym (view_4 g at (omega arith))) (quad_none_4 r a b d x y z f (drop (at + 4) g) w (ap (ok r) (sym c.with_high-value.ensures) ∙ sym c.allowed-2.ensures ∙ c.if-allowed-3.false))
