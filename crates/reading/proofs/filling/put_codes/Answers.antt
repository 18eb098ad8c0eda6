use Rattle.std.proofs.Common.{◌≡◌, get_or, set, ap, ◌∙◌, arith}
use Rattle.std.proofs.lemmas.List.{length-set, get_or_default}
use Rattle.reading.proofs.FillLaws.{row_more}
use Rattle.reading.proofs.filling.put_codes.Goals as goal

pub loop-i-preserved : goal.loop-i-preserved
loop-i-preserved c =
    let cs = c.as_slice-codes.result.now in
    let i = c.loop-i.i in
    let v = c.loop-i.invariant in
    let item : c.index-codes-i.result ≡ get_or cs i 0 = c.index-codes-i.is ∙ get_or_default cs i c.index-codes-i.result 0 c.loop-i-test.true in
    record { long = length-set c.loop-i.row i c.index-codes-i.result ∙ v.long; filled = ap (set c.loop-i.row i) item ∙ row_more cs c.args.row.now c.loop-i.row i c.loop-i-test.true (omega (arith, v.long)) v.filled }
