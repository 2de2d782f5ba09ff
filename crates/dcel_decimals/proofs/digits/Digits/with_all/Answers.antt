use Rattle.std.proofs.Common.{◌-◌, arith, get_or}
use Rattle.std.proofs.lemmas.Str.{digit_value_digit}
use Rattle.std.proofs.lemmas.Str.Parse.{digit_at}
use Rattle.dcel_decimals.specs.Digits.{number_of}
use Rattle.dcel_decimals.proofs.Long.{value_next, long_early}
use Rattle.dcel_decimals.proofs.digits.Digits.with_all.Goals as goal

pub overflow_sub-digit : goal.overflow_sub-digit
overflow_sub-digit c = (digit_at c.args.more.now c.loop-digit.digit-index c.requires.digits (omega arith)).0

pub with-requires-clause-digit : goal.with-requires-clause-digit
with-requires-clause-digit c = omega (arith, digit_at c.args.more.now c.loop-digit.digit-index c.requires.digits (omega arith))

pub returns-in_default-clause-number : goal.returns-in_default-clause-number
returns-in_default-clause-number c =
    let i = c.loop-digit.digit-index in
    let r = digit_at c.args.more.now i c.requires.digits (omega arith) in
    let v = digit_value_digit (get_or c.args.more.now i 0) r in
    let h = c.in_default.ensures.number in
    long_early (number_of c.args.self) c.args.more.now i (number_of c.loop-digit.so_far) (get_or c.args.more.now i 0 - 48) (omega arith) c.requires.digits c.loop-digit.invariant.0 (omega arith) h.1 (omega arith) h.0

pub loop-digit-preserved : goal.loop-digit-preserved
loop-digit-preserved c =
    let i = c.loop-digit.digit-index in
    let r = digit_at c.args.more.now i c.requires.digits (omega arith) in
    let v = digit_value_digit (get_or c.args.more.now i 0) r in
    let n = value_next (number_of c.args.self) c.args.more.now i (omega arith) in
    let e = c.in-Some.ensures.number in
    let z = c.in-Some.ensures.zeros in
    let f = c.loop-digit.invariant.0 in
    (omega arith, omega arith)
