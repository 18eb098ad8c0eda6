use Rattle.std.proofs.Common.{rules}
use Rattle.report.specs.Telling.{told_means}
use Rattle.report.proofs.Validity.{told_valid}
use Rattle.encoding.proofs.encode.Goals as goal

pub returns-in-Some : goal.returns-in-Some
returns-in-Some g c =
    let sized = g.met.D.Dialect.sized c.args.dialect.now (told_means c.in-Some.report) (told_valid c.in-Some.report) in
    search (rules, sized)
