use Rattle.std.proofs.Common.{◌≡◌, MatchOption, ap, sym, refl, ◌∙◌, subst}
use Rattle.report.specs.declared.report.Report.TheVariants.{Sequence as Told}
use Rattle.report.proofs.Validity.{valid}
use Rattle.dialect.specs.KittyBytes.{plain}
use Rattle.report.specs.Meanings.{Sound, characters, fields}
use Rattle.sequences.specs.Leads.{lead}
use Rattle.sequences.specs.Parts.{Long, filled}
use Rattle.sequences.proofs.sequences.sequence.Goals as goal

pub returns-else-is_plain : goal.returns-else-is_plain
returns-else-is_plain c =
    let f = filled (lead c.args.head) c.args.last (characters c.args.text) in
    let s = c.in_ok-sequence.sequence in
    let is = subst (λ r. MatchOption r (Sound f → ⊥) (λ s. fields s ≡ f)) c.in_ok-sequence.ensures.ok_part c.into_sequence.ensures in
    (is, subst Long is (valid (Told s), ap plain (sym c.told.ensures) ∙ sym c.is_plain.ensures ∙ c.if-is_plain.false), refl)
