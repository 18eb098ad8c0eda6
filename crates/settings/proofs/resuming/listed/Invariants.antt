use Rattle.std.proofs.Common.{◌≡◌, map, length, take}
use Rattle.settings.proofs.resuming.listed.Given as goal

abbrev pub invariant-loop-i : goal.invariant-loop-i
invariant-loop-i l =
    record { same : map (λ f. f.bits) (take l.i l.all) ≡ take l.i l.numbers; size : length l.all ≡ 8 }
