use Rattle.std.proofs.Common.{◌≤◌, length, ap, arith, rules}
use Rattle.report.specs.Telling.{told_means}
use Rattle.report.proofs.Validity.{told_valid}
use Rattle.dialect.specs.KittyBytes.{kitty_bytes}
use Rattle.dialect.specs.KittyLaws.{kitty_sized}
use Rattle.dialect.proofs.Writing.{written}
use Rattle.dialect.proofs.kitty.KittyDialect.write.Goals as goal

pub returns : goal.returns
returns c =
    let m = told_means c.args.report.now in
    let n = c.told-out in
    let fits : length (kitty_bytes m) ≤ length c.args.out.now = omega (arith, kitty_sized m (told_valid c.args.report.now), n) in
    let w = written c.new-pen.ensures.place (ap (λ o. o.now) c.new-pen.ensures.row) fits c.put_report.ensures c.count.ensures in
    let same = c.put_report.ensures.same_row in
    let after = w.1 in
    record { count = w.0; after = search (rules, same, after) }
