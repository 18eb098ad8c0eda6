use Rattle.std.proofs.Common.{refl}
use Rattle.tables.proofs.Apart.{table}
use Rattle.modifier_names.specs.Words.{words}
use Rattle.modifier_names.proofs.reading.modifier_words_apart.Goals as goal

pub returns : goal.returns
unfolding words
returns c = table words refl
