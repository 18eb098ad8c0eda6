use Rattle.std.proofs.Common.{[], ◌∷◌, ap}
use Rattle.dialect.proofs.Writing.{writes_as, writes_more}
use Rattle.dialect.proofs.kitty.put_parts.Goals as goal

pub returns : goal.returns
returns c =
    let last = writes_as (ap (λ b. b ∷ []) c.into.ensures) c.byte-2.ensures in
    writes_more c.code.ensures.wrote (writes_more c.put_alternates.ensures.wrote (writes_more c.byte.ensures (writes_more c.code-2.ensures.wrote (writes_more c.put_event.ensures.wrote (writes_more c.put_typed.ensures.wrote last)))))
