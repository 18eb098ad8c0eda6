use Rattle.std.proofs.Common.{◌≡◌, ◌<◌, true, length, take, refl, arith, length-set, rules}
use lib.Utf8.{scalar}
use Rattle.report.proofs.Rows.{taken_set, scalars_end}
use Rattle.report.proofs.text.Text.push.Goals as goal

pub invariant_of-self : goal.invariant_of-self
invariant_of-self c =
    let t = c.args.self.now in
    let h : c.args.self.now.count < length c.args.self.now.codes = omega (arith, c.args.self.now.whole) in
    let s : scalar c.args.c ≡ true = search rules in
    let e = scalars_end (take t.count t.codes) c.args.c t.characters s in
    record { few = omega arith; whole = simp length-set t.whole; characters = rw (taken_set t.codes t.count c.args.c h) e }

pub returns : goal.returns
returns c =
    let t = c.args.self.now in
    let h : c.args.self.now.count < length c.args.self.now.codes = omega (arith, c.args.self.now.whole) in
    (omega arith, refl, taken_set t.codes t.count c.args.c h)
