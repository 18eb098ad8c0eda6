use Rattle.std.proofs.Common.{◌≡◌, ◌++◌, drop}
use Rattle.std.specs.List.{flat_map}
use Rattle.keypad_chart.specs.Chart.{chart, chart_line}
use Rattle.keypad_chart.proofs.chart_text.Given as goal

abbrev pub invariant-loop-pad : goal.invariant-loop-pad
invariant-loop-pad l = l.text.bytes ++ flat_map chart_line (drop l.pad-index l.pad-items) ≡ chart
