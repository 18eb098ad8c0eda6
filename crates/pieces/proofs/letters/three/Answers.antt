use Rattle.std.proofs.Common.{inl, inr}
use Rattle.pieces.proofs.LetterLaws.{three_fails_2, three_fails_3}
use Rattle.pieces.proofs.letters.three.Goals as goal

pub returns-in_err-high : goal.returns-in_err-high
returns-in_err-high c = three_fails_2 c.args.bytes.now c.requires.some c.requires.low c.requires.high c.from_residual.result c.in_err-high.field-0.0 c.from_residual.ensures.1 c.in_err-high.ensures

pub returns-in_err-low : goal.returns-in_err-low
returns-in_err-low c = three_fails_3 c.args.bytes.now c.requires.some c.requires.low c.requires.high c.in_ok-high.high c.in_ok-high.ensures c.if-front-lt32.false (elim c.if-front-lt-PAST_SURROGATES.either [ inl p ↦ inr p.1 | inr q ↦ inl q ]) c.from_residual-in_err-low.result c.in_err-low.field-0.0 c.from_residual-in_err-low.ensures.1 c.in_err-low.ensures
