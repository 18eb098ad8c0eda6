use Rattle.std.proofs.Common.{rules}
use Rattle.name_writing.specs.Labels.{modifiers_name}
use Rattle.name_writing.proofs.flags.write_modifiers.Goals as goal

pub returns-then-modifiers-eq0 : goal.returns-then-modifiers-eq0
unfolding modifiers_name
returns-then-modifiers-eq0 c = search rules

pub returns : goal.returns
unfolding modifiers_name
returns c = search rules
