use Rattle.std.proofs.Common.{arith}
use Rattle.settings.proofs.Stacked.{topped-front}
use Rattle.settings.proofs.row.Row.replace.Goals as goal

pub returns : goal.returns
returns c =
    let r = c.args.self.now in
    topped-front (λ f. f.bits) r.settings r.held r.some (omega arith) c.args.flags
