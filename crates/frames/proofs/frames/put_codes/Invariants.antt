use Rattle.std.proofs.Common.{◌≡◌, ◌+◌, ◌*◌, take, drop}
use Rattle.std.specs.List.{flat_map}
use Rattle.report.specs.Letters.{spelled}
use Rattle.dialect.specs.Puts.{Writes}
use Rattle.frames.specs.Framing.{le32}
use Rattle.frames.proofs.frames.put_codes.Given as goal

abbrev pub invariant-loop : goal.invariant-loop
invariant-loop l = record {
  place : l.pen.at ≡ l.initial.pen.at + 4 * l.counter;
  behind : spelled l.rest.spelling ≡ drop l.counter (spelled l.letters.spelling);
  wrote : Writes l.initial.pen (flat_map le32 (take l.counter (spelled l.letters.spelling))) l.pen;
}
