use Rattle.std.proofs.Common.{[], ◌∷◌, ◌++◌, decimal, sym, ap, ◌∙◌, arith}
use Rattle.dialect.specs.KittyBytes.{kitty_bytes}
use Rattle.report.specs.Telling.{told_means}
use Rattle.dialect.proofs.Writing.{writes_as, writes_more, writes_put}
use Rattle.dialect.proofs.kitty.put_report.Goals as goal

pub returns-in-Answer : goal.returns-in-Answer
returns-in-Answer c =
    let e = ap (λ r. kitty_bytes (told_means r)) c.in-Answer.is ∙ ap (λ n. 27 ∷ 91 ∷ 63 ∷ (decimal n ++ (117 ∷ []))) (sym c.bits.ensures) in
    writes_as (sym e) (writes_more (writes_put (omega arith) c.bytes.ensures.put c.bytes.ensures.same_row) (writes_more c.code-in-Answer.ensures.wrote c.byte-in-Answer.ensures))
