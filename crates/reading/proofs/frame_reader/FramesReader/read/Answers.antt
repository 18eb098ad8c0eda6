use Rattle.frames.specs.Framing.{frame_bytes}
use Rattle.reading.proofs.FillLaws.{stored}
use Rattle.reading.proofs.frame_reader.FramesReader.read.Goals as goal

pub returns : goal.returns
returns c = stored frame_bytes c.args.given.now c.find.result c.args.text.now c.fill.new.text c.fill.result c.find.ensures c.fill.ensures
