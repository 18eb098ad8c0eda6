use Rattle.std.proofs.Common.{ℕ, ◌≤◌, length, arith, rules}
use Rattle.std.proofs.Math.Utf8.{encode}
use Rattle.std.proofs.lemmas.Bool.Decides.{nat_tests}
use Rattle.std.proofs.lemmas.Str.{length-encode}
use Rattle.name_writing.proofs.pieces.put_mapped.Goals as goal

short : (c : ℕ) → length (encode c) ≤ 4
short c = rw length-encode (grind (arith, nat_tests))

pub push-requires : goal.push-requires
push-requires c = let n = short c.args.c in search (rules, arith)
