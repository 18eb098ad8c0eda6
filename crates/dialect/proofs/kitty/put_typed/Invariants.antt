use Rattle.std.proofs.Common.{◌≡◌, ◌+◌, ◌*◌, ◌≤◌, take, drop}
use Rattle.report.specs.Letters.{spelled}
use Rattle.dialect.specs.KittyBytes.{typed}
use Rattle.dialect.specs.Puts.{Writes}
use Rattle.dialect.proofs.Typing.{mark}
use Rattle.dialect.proofs.kitty.put_typed.Given as goal

abbrev pub invariant-loop : goal.invariant-loop
invariant-loop l = record {
  near : l.pen.at ≤ l.initial.pen.at + 8 * l.counter;
  mark : l.mark ≡ mark (take l.counter (spelled l.letters.spelling));
  behind : spelled l.rest.spelling ≡ drop l.counter (spelled l.letters.spelling);
  wrote : Writes l.initial.pen (typed (take l.counter (spelled l.letters.spelling))) l.pen;
}
