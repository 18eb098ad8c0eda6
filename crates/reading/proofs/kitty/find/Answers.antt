use Rattle.std.proofs.Common.{◌≡◌, ℕ, List, [], ◌∷◌, ◌++◌, length, drop, sym, refl, ap, ◌∙◌, subst}
use Rattle.std.proofs.lemmas.Slice.Eq.{starts_is}
use Rattle.report.specs.declared.report.Report.TheVariants.{Text, Sequence}
use Rattle.report.specs.Meanings.{Meaning, Fields, text, sequence, means, fields}
use Rattle.dialect.specs.KittyBytes.{kitty_bytes}
use Rattle.pieces.specs.declared.found.Letter.{Letter}
use Rattle.pieces.specs.Languages.{Takes, whole}
use Rattle.pieces.specs.Letters.{Characters}
use Rattle.pieces.proofs.Fronts.{fails}
use Rattle.pieces.proofs.Chains.{embeds_break, embeds_whole, embeds_same}
use Rattle.sequences.specs.declared.told.Told.{Told}
use Rattle.sequences.specs.Parts.{AtNumber}
use Rattle.pieces.specs.declared.found.Seen.{Seen}
use Rattle.reading.specs.Kitty.{AtFlags, short_form}
use Rattle.pieces.specs.Reports.{Spoken}
use Rattle.reading.proofs.KittyReading.{part_front, whole_short, number_to, number_from, flags_to, flags_from, letter_to, letter_from}
use Rattle.reading.proofs.kitty.find.Goals as goal
use Rattle.std.proofs.lemmas.Bool.Decides.{Decides-eqb}

pub returns-then-starts_with : goal.returns-then-starts_with
returns-then-starts_with c =
    let g = c.args.given.now in
    let e = (starts_is Decides-eqb (27 ∷ 91 ∷ []) g c.starts_with.result c.starts_with.ensures.value).0 c.if-starts_with.true in
    part_front g (drop (length g) (27 ∷ 91 ∷ [])) (sym e)

pub returns-then-starts_with-2 : goal.returns-then-starts_with-2
returns-then-starts_with-2 c =
    let g = c.args.given.now in
    let e = (starts_is Decides-eqb g (27 ∷ 91 ∷ 69 ∷ []) c.starts_with-2.result c.starts_with-2.ensures.value).0 c.if-starts_with-2.true in
    let w = subst (λ x. Takes (Spoken kitty_bytes) x (whole (sequence short_form) (drop 3 g))) (sym e) (whole_short (drop 3 g)) in
    (subst (λ f. Takes (Spoken kitty_bytes) g (whole (sequence f) (drop 3 g))) (sym c.short_form.ensures) w, c.starts_with-2.ensures.bound c.if-starts_with-2.true)

pub returns-then-starts_with-3 : goal.returns-then-starts_with-3
returns-then-starts_with-3 c =
    let g = c.args.given.now in
    let e = (starts_is Decides-eqb g (27 ∷ 91 ∷ 63 ∷ []) c.starts_with-3.result c.starts_with-3.ensures.value).0 c.if-starts_with-3.true in
    embeds_same AtFlags (Spoken kitty_bytes) (27 ∷ 91 ∷ 63 ∷ []) g 0 3 e flags_to (flags_from (drop 3 g)) (λ (x : Seen). means x.report) (λ x. x.length) c.read_flags.result c.read_flags.ensures

-- after ESC [, where neither E nor ? follows
from_number : (g : List ℕ) → g ≡ (27 ∷ 91 ∷ []) ++ drop 2 g → ((v : List ℕ) → g ++ v ≡ 27 ∷ 91 ∷ [] → ⊥) → ((v : List ℕ) → (27 ∷ 91 ∷ 69 ∷ []) ++ v ≡ g → ⊥) → ((v : List ℕ) → (27 ∷ 91 ∷ 63 ∷ []) ++ v ≡ g → ⊥) → (m : Meaning) (s t u : List ℕ) → Spoken kitty_bytes s m → s ++ t ≡ (27 ∷ 91 ∷ []) ++ (drop 2 g ++ u) → (f : Fields) × (r : List ℕ) × AtNumber r f × (s ≡ (27 ∷ 91 ∷ []) ++ r)
from_number g e some begin ask = number_from (drop 2 g) (λ v h. some v (ap (λ x. x ++ v) e ∙ h)) (λ v h. begin v (ap (λ x. 27 ∷ 91 ∷ x) (sym h) ∙ sym e)) (λ v h. ask v (ap (λ x. 27 ∷ 91 ∷ x) (sym h) ∙ sym e))

pub returns-in_err-told : goal.returns-in_err-told
returns-in_err-told c =
    let g = c.args.given.now in
    let e = (starts_is Decides-eqb g (27 ∷ 91 ∷ []) c.starts_with-4.result c.starts_with-4.ensures.value).0 c.if-starts_with-4.true in
    let some = fails (27 ∷ 91 ∷ []) g c.starts_with.result c.starts_with.ensures.value c.if-starts_with.false in
    let begin = fails g (27 ∷ 91 ∷ 69 ∷ []) c.starts_with-2.result c.starts_with-2.ensures.value c.if-starts_with-2.false in
    let ask = fails g (27 ∷ 91 ∷ 63 ∷ []) c.starts_with-3.result c.starts_with-3.ensures.value c.if-starts_with-3.false in
    embeds_break AtNumber (Spoken kitty_bytes) sequence (27 ∷ 91 ∷ []) g 0 2 e number_to (from_number g e some begin ask) (λ (t : Told). fields t.sequence) (λ t. t.next) (λ (x : Seen). means x.report) (λ x. x.length) c.from_residual.result c.in_err-told.field-0.0 c.from_residual.ensures.1 c.in_err-told.ensures

pub returns-then-starts_with-4 : goal.returns-then-starts_with-4
returns-then-starts_with-4 c =
    let g = c.args.given.now in
    let e = (starts_is Decides-eqb g (27 ∷ 91 ∷ []) c.starts_with-4.result c.starts_with-4.ensures.value).0 c.if-starts_with-4.true in
    let some = fails (27 ∷ 91 ∷ []) g c.starts_with.result c.starts_with.ensures.value c.if-starts_with.false in
    let begin = fails g (27 ∷ 91 ∷ 69 ∷ []) c.starts_with-2.result c.starts_with-2.ensures.value c.if-starts_with-2.false in
    let ask = fails g (27 ∷ 91 ∷ 63 ∷ []) c.starts_with-3.result c.starts_with-3.ensures.value c.if-starts_with-3.false in
    embeds_whole AtNumber (Spoken kitty_bytes) sequence (27 ∷ 91 ∷ []) g 0 2 e number_to (from_number g e some begin ask) (λ (t : Told). fields t.sequence) (λ t. t.next) (λ (x : Seen). means x.report) (λ x. x.length) c.in_ok-told.told (record { report = Sequence c.in_ok-told.told.sequence; length = c.in_ok-told.told.next }) refl refl c.in_ok-told.ensures

pub returns-in_err-letter : goal.returns-in_err-letter
returns-in_err-letter c =
    let g = c.args.given.now in
    let before = fails (27 ∷ 91 ∷ []) g c.starts_with.result c.starts_with.ensures.value c.if-starts_with.false in
    let after = fails g (27 ∷ 91 ∷ []) c.starts_with-4.result c.starts_with-4.ensures.value c.if-starts_with-4.false in
    embeds_break Characters (Spoken kitty_bytes) text [] g 0 0 refl letter_to (letter_from g after before) (λ (x : Letter). x.code) (λ x. x.next) (λ (x : Seen). means x.report) (λ x. x.length) c.from_residual-in_err-letter.result c.in_err-letter.field-0.0 c.from_residual-in_err-letter.ensures.1 c.in_err-letter.ensures

pub returns : goal.returns
returns c =
    let g = c.args.given.now in
    let before = fails (27 ∷ 91 ∷ []) g c.starts_with.result c.starts_with.ensures.value c.if-starts_with.false in
    let after = fails g (27 ∷ 91 ∷ []) c.starts_with-4.result c.starts_with-4.ensures.value c.if-starts_with-4.false in
    embeds_whole Characters (Spoken kitty_bytes) text [] g 0 0 refl letter_to (letter_from g after before) (λ (x : Letter). x.code) (λ x. x.next) (λ (x : Seen). means x.report) (λ x. x.length) c.in_ok-letter.letter (record { report = Text c.new.result; length = c.in_ok-letter.letter.next }) (ap text c.new.ensures) refl c.in_ok-letter.ensures
