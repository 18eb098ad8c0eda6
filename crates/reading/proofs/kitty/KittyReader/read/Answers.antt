use Rattle.dialect.specs.KittyBytes.{kitty_bytes}
use Rattle.reading.proofs.FillLaws.{stored}
use Rattle.reading.proofs.kitty.KittyReader.read.Goals as goal

pub returns : goal.returns
returns c = stored kitty_bytes c.args.given.now c.find.result c.args.text.now c.fill.new.text c.fill.result c.find.ensures c.fill.ensures
