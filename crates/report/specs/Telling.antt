-- What is told means what the report of its parts means.
use Rattle.report.specs.declared.told.Told.{Told}
use Rattle.report.specs.declared.told.Told.TheVariants.{Text, Old, Answer, Sequence}
use Rattle.report.specs.declared.told.ToldSequence.{ToldSequence}
use Rattle.report.specs.Letters.{spelled}
use Rattle.report.specs.Meanings.{Fields, Meaning, Valid, text, old, answer, sequence}

abbrev pub told_fields : ToldSequence → Fields
told_fields s = record { number = s.number; shifted = s.shifted; base = s.base; sum = s.sum; direction = s.direction; last = s.last; text = spelled s.letters.spelling }

abbrev pub told_means : Told → Meaning
told_means (Text c) = text c.code
told_means (Old c) = old c.code
told_means (Answer n) = answer n.bits
told_means (Sequence s) = sequence (told_fields s)

-- everything that can be told is a report that there is
abbrev pub AllToldValid : Type 0
AllToldValid = (t : Told) → Valid (told_means t)
