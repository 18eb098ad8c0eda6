use Rattle.std.proofs.Common.{◌≡◌, ◌+◌, ◌≤◌, true, length}
use Rattle.std.specs.Str.Iter.{split_text, split_has_more, split_pattern}
use Rattle.modifier_names.specs.Words.{listed_from, parts}
use Rattle.modifier_names.proofs.Parts.{left}
use Rattle.modifier_names.proofs.reading.modifiers_of.Given as goal

abbrev pub invariant-loop-part : goal.invariant-loop-part
invariant-loop-part l = record {
  told : listed_from l.from l.bits (left (split_has_more l.part-iterator) (split_text l.part-iterator)) ≡ listed_from 0 0 (parts l.list);
  within : split_has_more l.part-iterator ≡ true → l.from + length (split_text l.part-iterator) ≤ length l.list;
  bar : split_pattern l.part-iterator ≡ 124;
}
