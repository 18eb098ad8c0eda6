use Rattle.pieces.proofs.LetterLaws.{four_fails_2, four_fails_3, four_fails_4}
use Rattle.pieces.proofs.letters.four.Goals as goal

pub returns-in_err-high : goal.returns-in_err-high
returns-in_err-high c = four_fails_2 c.args.bytes.now c.requires.some c.requires.low c.requires.high c.from_residual.result c.in_err-high.field-0.0 c.from_residual.ensures.1 c.in_err-high.ensures

pub returns-in_err-middle : goal.returns-in_err-middle
returns-in_err-middle c = four_fails_3 c.args.bytes.now c.requires.some c.requires.low c.requires.high c.in_ok-high.high c.in_ok-high.ensures c.if-front-lt16.false c.if-front-ge272.false c.from_residual-in_err-middle.result c.in_err-middle.field-0.0 c.from_residual-in_err-middle.ensures.1 c.in_err-middle.ensures

pub returns-in_err-low : goal.returns-in_err-low
returns-in_err-low c = four_fails_4 c.args.bytes.now c.requires.some c.requires.low c.requires.high c.in_ok-high.high c.in_ok-high.ensures c.if-front-lt16.false c.if-front-ge272.false c.in_ok-middle.middle c.in_ok-middle.ensures c.from_residual-in_err-low.result c.in_err-low.field-0.0 c.from_residual-in_err-low.ensures.1 c.in_err-low.ensures
