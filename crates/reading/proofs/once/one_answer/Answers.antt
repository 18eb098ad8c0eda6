use Rattle.reading.proofs.Readers.{answers}
use Rattle.reading.proofs.once.one_answer.Goals as goal

pub returns : goal.returns
returns g c given = answers (g.D.Dialect.bytes c.args.d.now) (g.met.D.Dialect.apart c.args.d.now) given
