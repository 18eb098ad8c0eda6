use Rattle.std.proofs.Common.{length, refl, sym, ap, arith}
use Rattle.std.proofs.lemmas.Fmt.{decimal_digit}
use Rattle.dialect.proofs.Decimals.{two}
use Rattle.dialect.proofs.Writing.{wrote_as}
use Rattle.dialect.proofs.pen.put_short.Goals as goal

pub bounds-out-at : goal.bounds-out-at
bounds-out-at c =
    let one = ap length (decimal_digit c.args.n c.if-n-lt10.true) in
    omega (arith, one, c.requires.1)

pub returns-then-n-lt10 : goal.returns-then-n-lt10
returns-then-n-lt10 c = wrote_as (sym (decimal_digit c.args.n c.if-n-lt10.true)) (record { place = refl; row = refl })

pub put_pair-requires : goal.put_pair-requires
put_pair-requires c =
    let both = ap length (two c.args.n (omega arith) c.requires.0) in
    (omega arith, omega (arith, both, c.requires.1))

pub returns : goal.returns
returns c = wrote_as (sym (two c.args.n (omega arith) c.requires.0)) c.put_pair.ensures
