use Rattle.std.proofs.Common.{◌≡◌, true, false, get_or, sym, ◌∙◌, arith}
use Rattle.std.specs.Char.{is_ascii_digit}
use Rattle.pieces.proofs.Extending.{digit_range}
use Rattle.pieces.proofs.DigitLaws.{run_whole, run_more, run_part, run_nothing}
use Rattle.pieces.proofs.digits.digits.Goals as goal

pub returns-then-not-is_ascii_digit : goal.returns-then-not-is_ascii_digit
returns-then-not-is_ascii_digit c =
    let v = c.loop-i.invariant in
    let no : is_ascii_digit (get_or c.args.bytes.now c.loop-i.i 0) ≡ false = sym c.is_ascii_digit.ensures.value ∙ c.if-not-is_ascii_digit.true in
    (run_whole c.args.range c.args.bytes.now c.args.at c.loop-i.i c.loop-i.value v.within v.split (omega arith) no, omega arith)

pub returns-in_default : goal.returns-in_default
returns-in_default c =
    let v = c.loop-i.invariant in
    let yes : is_ascii_digit (get_or c.args.bytes.now c.loop-i.i 0) ≡ true = sym c.is_ascii_digit.ensures.value ∙ c.if-not-is_ascii_digit.false in
    let h = digit_range (get_or c.args.bytes.now c.loop-i.i 0) yes in
    run_nothing c.args.range c.args.bytes.now c.args.at c.loop-i.i c.loop-i.value v.within v.split (omega arith) h.0 h.1 yes (sym c.in_default.ensures)

pub loop-i-preserved : goal.loop-i-preserved
loop-i-preserved c =
    let v = c.loop-i.invariant in
    let yes : is_ascii_digit (get_or c.args.bytes.now c.loop-i.i 0) ≡ true = sym c.is_ascii_digit.ensures.value ∙ c.if-not-is_ascii_digit.false in
    let h = digit_range (get_or c.args.bytes.now c.loop-i.i 0) yes in
    let p = run_more c.args.range c.args.bytes.now c.args.at c.loop-i.i c.loop-i.value v.within v.split c.in-Some.n (omega arith) h.0 h.1 (sym c.in-Some.ensures) in
    record { within = p.0; split = p.1 }

pub returns : goal.returns
returns c =
    let v = c.loop-i.invariant in
    run_part c.args.range c.args.bytes.now c.args.at c.loop-i.i c.loop-i.value v.within v.split (omega arith)
