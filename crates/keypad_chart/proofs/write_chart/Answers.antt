use Rattle.std.proofs.Common.{◌≡◌, ap, ◌∙◌, rules}
use Rattle.name_writing.specs.Written.{written}
use Rattle.keypad_chart.specs.Chart.{chart}
use Rattle.keypad_chart.proofs.Chart.{roomy}
use Rattle.keypad_chart.proofs.write_chart.Goals as goal

pub returns-clause-room : goal.returns-clause-room
returns-clause-room c =
    let text : c.as_str.result.now ≡ chart = search rules in
    λ h. roomy c.args.buffer.now c.put.new.buffer c.put.result (c.put.ensures ∙ ap (λ t. written t c.args.buffer.now) text) h
