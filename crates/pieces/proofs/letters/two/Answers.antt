use Rattle.pieces.proofs.LetterLaws.{two_fails}
use Rattle.pieces.proofs.letters.two.Goals as goal

pub returns-in_err-low : goal.returns-in_err-low
returns-in_err-low c = two_fails c.args.bytes.now c.requires.some c.requires.low c.requires.high c.from_residual.result c.in_err-low.field-0.0 c.from_residual.ensures.1 c.in_err-low.ensures
