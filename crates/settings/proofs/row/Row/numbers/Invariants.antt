use Rattle.std.proofs.Common.{◌≡◌, map, length, take}
use Rattle.settings.proofs.row.Row.numbers.Given as goal

abbrev pub invariant-loop-i : goal.invariant-loop-i
invariant-loop-i l =
    record { same : take l.i l.numbers ≡ map (λ f. f.bits) (take l.i l.self.settings); size : length l.numbers ≡ 8 }
