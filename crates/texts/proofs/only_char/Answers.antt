use Rattle.std.proofs.Common.{sym, ◌∙◌, rules}
use Rattle.std.specs.Str.Iter.{chars_rest}
use Rattle.texts.proofs.Onlys.{none, one, more}
use Rattle.texts.proofs.only_char.Goals as goal

pub returns-in-None : goal.returns-in-None
returns-in-None c =
    one c.args.text.now (chars_rest c.next.new.self) c.in_ok-first.first (search rules) (sym c.chars-chars.ensures.rest ∙ c.in_ok-first.ensures.steps.0) c.in-None.ensures.steps.0.0

pub returns-in-Some : goal.returns-in-Some
returns-in-Some c =
    more c.args.text.now (chars_rest c.next.new.self) c.in_ok-first.first (search rules) (sym c.chars-chars.ensures.rest ∙ c.in_ok-first.ensures.steps.0) c.in-Some.field-0 (chars_rest c.next-2.new.self) c.in-Some.ensures.steps.0

pub returns-in_err-first : goal.returns-in_err-first
returns-in_err-first c = let h = c.in_err-first.ensures.steps.0.0 in c.from_residual.ensures ∙ none c.args.text.now (rw c.chars-chars.ensures.rest at h)
