use Rattle.std.proofs.Common.{arith}
use Rattle.report.specs.Telling.{told_means}
use Rattle.report.proofs.Validity.{told_valid}
use Rattle.replay.proofs.reports.answer_write.Goals as goal

pub slice_bounds-put_bytes-end : goal.slice_bounds-put_bytes-end
slice_bounds-put_bytes-end g c =
    let sized = g.met.D.Dialect.sized c.args.dialect.now (told_means c.told.result) (told_valid c.told.result) in
    omega (arith, c.write-count.ensures.count, sized.1)
