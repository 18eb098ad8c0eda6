use Rattle.std.proofs.Common.{[], sym, subst}
use Rattle.sequences.specs.Leads.{lead}
use Rattle.sequences.specs.Parts.{AtClosing, AtText, Tells}
use Rattle.sequences.proofs.Telling.{tells_same}
use Rattle.sequences.proofs.TextLaws.{closing_text, text_closing}
use Rattle.sequences.proofs.sequences.read_closing.Goals as goal

pub returns-then-mark-eq59 : goal.returns-then-mark-eq59
returns-then-mark-eq59 c =
    let h = lead c.args.head in
    let r = tells_same (AtText h []) (AtClosing h 59) (text_closing h) (closing_text h) c.args.bytes.now c.args.at c.read_text.result c.read_text.ensures in
    subst (λ b. Tells (AtClosing h b) c.args.bytes.now c.args.at c.read_text.result) (sym c.if-mark-eq59.true) r
