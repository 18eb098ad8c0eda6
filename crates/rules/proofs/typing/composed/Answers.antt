use Rattle.std.proofs.Common.{arith}
use Rattle.std.specs.Str.{chars}
use Rattle.std.proofs.lemmas.Str.{scalars-chars}
use Rattle.report.proofs.Kept.{shown_few, shown_scalars}
use Rattle.rules.proofs.typing.composed.Goals as goal

pub invariant_of-result : goal.invariant_of-result
invariant_of-result c =
    let cs = chars c.args.text.now in
    let h = shown_few cs in
    record { few = omega (arith, h, c.requires); characters = shown_scalars cs (scalars-chars c.args.text.now c.utf8.text) }
