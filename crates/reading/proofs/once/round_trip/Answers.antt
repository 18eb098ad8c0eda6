use Rattle.std.proofs.Common.{◌≡◌, ◌-◌, ◌≤◌, [], length, take, sym, ap, ◌∙◌, subst, arith, rules}
use Rattle.std.proofs.lemmas.List.{append-nil, take_at}
use Rattle.report.specs.Meanings.{means}
use Rattle.report.specs.Telling.{told_means}
use Rattle.report.proofs.Validity.{valid}
use Rattle.reading.specs.Reading.{Fills}
use Rattle.reading.proofs.Readers.{answers}
use Rattle.reading.proofs.once.round_trip.Goals as goal

pub slice_bounds-read-end : goal.slice_bounds-read-end
slice_bounds-read-end g c =
    let m = means c.args.report.now in
    let h = g.met.R.Dialect.sized c.args.reader.now m (valid c.args.report.now) in
    let n = c.write-count.ensures.count ∙ ap (λ t. length (g.R.Dialect.bytes c.args.reader.now t)) c.told.ensures in
    let l : c.write-count.result ≤ 512 = omega (arith, h.1, n) in
    search rules

pub returns : goal.returns
returns g c =
    let m = means c.args.report.now in
    let bytes = g.R.Dialect.bytes c.args.reader.now in
    let n = c.write-count.result in
    let whole : n - 0 ≡ n = omega arith in
    let t = told_means c.told.result in
    let front : take (n - 0) c.write-count.new.out ≡ bytes m = ap (λ k. take k c.write-count.new.out) whole ∙ ap (take n) c.write-count.ensures.after ∙ take_at (bytes t) _ n (sym c.write-count.ensures.count) ∙ ap bytes c.told.ensures in
    let reads = subst (λ xs. Fills bytes xs c.args.text.now c.read.new.text c.read.result) front c.read.ensures in
    record { reads = reads; back = λ k l. (answers bytes (g.met.R.Dialect.apart c.args.reader.now) (bytes m) c.args.text.now c.read.new.text c.read.result reads).whole m ((valid c.args.report.now, k), ([], append-nil (bytes m))) l }
