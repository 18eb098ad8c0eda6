use Rattle.std.proofs.Common.{sym, arith}
use Rattle.dialect.proofs.Decimals.{more, longer, four, four_longer}
use Rattle.dialect.proofs.Writing.{wrote_as, wrote_more}
use Rattle.dialect.proofs.pen.+put_decimal.Goals as goal

pub put_short-tens-requires : goal.put_short-tens-requires
put_short-tens-requires t c =
    let l = longer c.args.n (omega arith) (omega arith) in
    (omega arith, omega (arith, l, c.requires))

pub put_pair-requires : goal.put_pair-requires
put_pair-requires t c =
    let l = longer c.args.n (omega arith) (omega arith) in
    (omega arith, omega (arith, l, c.requires, c.put_short-tens.ensures.place))

pub returns-then-n-lt10000 : goal.returns-then-n-lt10000
returns-then-n-lt10000 t c = wrote_as (sym (more c.args.n (omega arith) (omega arith))) (wrote_more c.put_short-tens.ensures c.put_pair.ensures)

pub put_decimal-hundreds-requires : goal.put_decimal-hundreds-requires
put_decimal-hundreds-requires t c =
    let l = four_longer c.args.n (omega arith) (omega arith) in
    (omega (arith, c.decreases), omega (arith, l, c.requires))

pub put_pair-tens-requires : goal.put_pair-tens-requires
put_pair-tens-requires t c =
    let l = four_longer c.args.n (omega arith) (omega arith) in
    (omega arith, omega (arith, l, c.requires, c.put_decimal-hundreds.ensures.place))

pub put_pair-requires-2 : goal.put_pair-requires-2
put_pair-requires-2 t c =
    let l = four_longer c.args.n (omega arith) (omega arith) in
    (omega arith, omega (arith, l, c.requires, c.put_decimal-hundreds.ensures.place, c.put_pair-tens.ensures.place))

pub returns : goal.returns
returns t c = wrote_as (sym (four c.args.n (omega arith) (omega arith))) (wrote_more (wrote_more c.put_decimal-hundreds.ensures c.put_pair-tens.ensures) c.put_pair-2.ensures)
