use Rattle.name_writing.specs.Labels.{modifier_labels}
use Rattle.name_writing.proofs.flags.modifier_labels.Goals as goal

pub returns : goal.returns
unfolding modifier_labels
returns c = c.joined.ensures
