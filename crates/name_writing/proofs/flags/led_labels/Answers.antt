use Rattle.name_writing.specs.Labels.{led_labels, leds_name}
use Rattle.name_writing.proofs.flags.led_labels.Goals as goal

pub returns : goal.returns
unfolding led_labels leds_name
returns c = c.joined.ensures
