use Rattle.std.proofs.Common.{refl}
use Rattle.keypad_chart.specs.Chart.{chart}
use Rattle.keypad_chart.proofs.Chart.{fits}
use Rattle.keypad_chart.proofs.chart_text.Goals as goal

pub loop-pad-init : goal.loop-pad-init
unfolding chart
loop-pad-init c = rw (c.new-text.ensures, c.pads.ensures.table) refl

pub push_line-requires : goal.push_line-requires
push_line-requires c = fits c.pads.result c.loop-pad.pad-index (rw c.pads.ensures.table c.loop-pad-test.true) c.loop-pad.text.bytes c.loop-pad.invariant
