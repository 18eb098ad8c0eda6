use Rattle.std.proofs.Common.{[], refl}
use Rattle.request.proofs.Alone.{one_way}
use Rattle.request.proofs.Reader.new.Goals as goal

pub returns : goal.returns
returns c = record { hears = record { begun = []; reads = (refl, refl); pending = refl }; one_way = one_way }
