use Rattle.std.proofs.Common.{◌≡◌, ℕ, ◌+◌, ◌<◌, List, [], ◌++◌, length, get_or, take, sym, ap, ◌∙◌, arith}
use Rattle.std.specs.List.{flat_map}
use Rattle.std.proofs.lemmas.List.{flat_map_more, take_more}
use Rattle.report.specs.Letters.{spelled}
use Rattle.dialect.proofs.Typing.{inside, next_is, behind_is}
use Rattle.dialect.proofs.Writing.{writes_as, writes_more}
use Rattle.frames.specs.Framing.{le32}
use Rattle.frames.proofs.frames.put_codes.Goals as goal

-- one character more
longer : (cs : List ℕ) (i : ℕ) → i < length cs → flat_map le32 (take i cs) ++ le32 (get_or cs i 0) ≡ flat_map le32 (take (i + 1) cs)
longer cs i h = flat_map_more le32 [] (take i cs) (get_or cs i 0) ∙ ap (flat_map le32) (sym (take_more cs i 0 h))

pub put_le32-requires : goal.put_le32-requires
put_le32-requires c =
    let h = sym c.loop.invariant.behind ∙ c.in-Some.ensures in
    omega (arith, c.requires, c.loop.invariant.place, inside (spelled c.args.letters.spelling) c.loop.counter c.in-Some.c _ h)

pub loop-preserved : goal.loop-preserved
loop-preserved c =
    let cs = spelled c.args.letters.spelling in
    let i = c.loop.counter in
    let rest = spelled c.in-Some.behind.spelling in
    let h = sym c.loop.invariant.behind ∙ c.in-Some.ensures in
    let within = inside cs i c.in-Some.c rest h in
    let item = sym (next_is cs i c.in-Some.c rest h) in
    record {
      place = omega (arith, c.loop.invariant.place, c.put_le32.ensures.wrote.place);
      behind = sym (behind_is cs i c.in-Some.c rest h);
      wrote = writes_as (longer cs i within) (writes_more c.loop.invariant.wrote (writes_as (ap le32 item) c.put_le32.ensures));
    }
