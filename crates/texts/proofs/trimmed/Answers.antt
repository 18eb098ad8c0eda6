use Rattle.std.proofs.Common.{arith, rules}
use Rattle.texts.proofs.Trims.{indent, between}
use Rattle.texts.proofs.trimmed.Goals as goal

pub returns : goal.returns
returns c =
    let s = c.trim_start-front.ensures.value in
    let e = c.trim_end.ensures.value in
    record {
      word = between c.args.text.now c.trim_start-front.result.now c.trim_end.result.now (search rules) (search rules) (search rules) s.0 e.0 s.1 s.2 s.3.0 s.3.1 e.1 e.5 e.2 e.3;
      place = indent c.args.text.now c.trim_start-front.result.now c.trim_end.result.now (search rules) (search rules) (search rules) s.0 e.0 s.1 s.2 s.3.0 s.3.1 e.1 e.5 e.2 e.3;
      bound = omega arith;
    }
