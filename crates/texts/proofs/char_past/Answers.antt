use Rattle.std.proofs.Common.{◌≡◌, ◌∙◌, rules}
use Rattle.std.specs.Option.{option_map}
use Rattle.texts.proofs.Places.{passed}
use Rattle.texts.proofs.char_past.Goals as goal

pub returns : goal.returns
returns c =
    let m : c.map.result ≡ option_map (λ p. p.0) c.nth.result = search rules in
    let r = c.nth.ensures.ran in
    let start = c.char_indices.ensures in
    let p = passed c.char_indices.result r.1.0 c.nth.new.self c.args.limit r.0 c.nth.result (rw start.rest (search rules)) r.1.1 r.1.2 r.2 in
    m ∙ rw (start.rest, start.offset) at p
