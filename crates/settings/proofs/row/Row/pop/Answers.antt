use Rattle.std.proofs.Common.{arith}
use Rattle.settings.proofs.Stacked.{popped-front}
use Rattle.settings.proofs.row.Row.pop.Goals as goal

pub returns-then-n-self : goal.returns-then-n-self
returns-then-n-self c =
    let r = c.args.self.now in
    popped-front (λ f. f.bits) r.settings r.held r.some (omega arith) c.args.n (omega arith)
