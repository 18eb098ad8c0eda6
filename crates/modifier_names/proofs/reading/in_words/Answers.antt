use Rattle.modifier_names.specs.Words.{words}
use Rattle.modifier_names.proofs.reading.in_words.Goals as goal

pub returns : goal.returns
unfolding words
returns c = c.find.ensures
