use Rattle.std.proofs.Common.{◌≡◌, ◌+◌, ◌*◌, ◌++◌, length, sym, ap, ◌∙◌, arith}
use Rattle.report.specs.Meanings.{sequence}
use Rattle.report.specs.Telling.{told_means, told_fields}
use Rattle.dialect.proofs.Writing.{writes_as, writes_more}
use Rattle.frames.specs.Framing.{le16, framed, frame_bytes}
use Rattle.frames.specs.FrameLaws.{length-codes}
use Rattle.frames.proofs.frames.put_report.Goals as goal

pub returns-in-Sequence : goal.returns-in-Sequence
returns-in-Sequence c =
    let s = c.in-Sequence.s in
    let f = told_fields s in
    let m = told_means c.args.report.now in
    let is : m ≡ sequence f = ap told_means c.in-Sequence.is in
    let long : 18 + 4 * c.count.result ≡ length (framed (sequence f)) = omega (arith, c.count.ensures, length-codes f.text) in
    let e : le16 (18 + 4 * c.count.result) ++ framed (sequence f) ≡ frame_bytes m = ap (λ k. le16 k ++ framed (sequence f)) long ∙ ap frame_bytes (sym is) in
    writes_as {ys = frame_bytes m} e (writes_more c.put_head-in-Sequence.ensures c.put_fields.ensures)
