use Rattle.std.proofs.Common.{rules}
use Rattle.modifier_names.specs.Words.{word_bits}
use Rattle.modifier_names.proofs.reading.word_bits.Goals as goal

pub returns : goal.returns
unfolding word_bits
returns c = search rules
