use Rattle.std.proofs.Common.{refl, arith}
use Rattle.dialect.specs.Numbers.{code_short}
use Rattle.dialect.proofs.pen.Pen.code.Goals as goal

pub put_decimal-self-requires : goal.put_decimal-self-requires
put_decimal-self-requires c = let s = code_short c.args.n c.requires.0 in omega (arith, s, c.requires.1)

pub returns : goal.returns
returns c =
    let s = code_short c.args.n c.requires.0 in
    record { wrote = record { wrote = c.put_decimal-self.ensures; same_row = refl }; near = omega (arith, c.put_decimal-self.ensures.place, s) }
