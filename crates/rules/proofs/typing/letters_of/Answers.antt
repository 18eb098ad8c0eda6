use Rattle.std.proofs.Common.{ℕ, ◌≤◌, List, length, sym, ap, ◌∙◌, subst}
use Rattle.std.specs.Str.{chars}
use Rattle.events.specs.Checks.{bytes_of}
use Rattle.events.specs.Events.{Fit}
use Rattle.events.specs.Passed.{event_of}
use Rattle.events.proofs.Fits.{fit}
use Rattle.rules.proofs.typing.letters_of.Goals as goal

pub composed-requires : goal.composed-requires
composed-requires c =
    let k = c.in-Composed.ensures in
    let f = subst Fit (sym k) (fit (event_of c.args.key) c.args.key.passed) in
    let t = c.text.ensures ∙ ap bytes_of (sym k) in
    subst (λ (bs : List ℕ). length (chars bs) ≤ 32) (sym t) f.1
