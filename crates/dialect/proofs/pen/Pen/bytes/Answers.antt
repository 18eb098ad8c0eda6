use Rattle.std.proofs.Common.{◌≡◌, length, refl, arith, rules}
use Rattle.dialect.proofs.Writing.{put_mid_puts}
use Rattle.dialect.proofs.pen.Pen.bytes.Goals as goal

pub returns-clause-put : goal.returns-clause-put
returns-clause-put c =
    let p = c.args.self.now in
    let bs = c.args.bytes.now in
    let n : length p.out.now ≡ 512 = search rules in
    record { fits = λ h. record { place = refl; row = rw c.copy_from_slice.ensures.after (put_mid_puts p.out.now p.at _ bs (omega arith) (omega arith)) }; passes = λ h. absurd (omega arith) }
