use Rattle.std.proofs.Common.{sym, ap}
use Rattle.dialect.specs.KittyBytes.{alternates}
use Rattle.dialect.proofs.Writing.{writes_as, writes_more}
use Rattle.dialect.proofs.kitty.put_alternates.Goals as goal

pub returns-in-Some-clause-wrote : goal.returns-in-Some-clause-wrote
returns-in-Some-clause-wrote c =
    let all = writes_more c.byte.ensures (writes_more c.put_optional.ensures.wrote (writes_more c.byte-in-Some.ensures c.code.ensures.wrote)) in
    writes_as (ap (alternates c.args.shifted) (sym c.in-Some.is)) all
