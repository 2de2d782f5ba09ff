use Rattle.std.proofs.Common.{◌≡◌, refl, ◌+◌, ◌-◌, arith, sym, ◌∙◌, drop, set, append-nil}
use Rattle.std.specs.Fmt.{decimal}
use Rattle.std.proofs.lemmas.List.{length-drop, length-set, take_all}
use Rattle.std.proofs.lemmas.Fmt.{length-decimal-le}
use Rattle.dcel_text.proofs.Writing.{writes_text}
use Rattle.dcel_text.proofs.Digits.{length-decimal-div, digit_put, first_digit_put}
use Rattle.dcel_text.proofs.output.Writer.number.Goals as goal

pub loop-high-init : goal.loop-high-init
loop-high-init g c = record {
  slots = refl;
  in_range = omega arith;
  room = length-decimal-le 20 c.args.n (omega arith) (omega arith) (omega arith);
  whole = sym (append-nil (decimal c.args.n));
}

pub overflow_sub-at-in-loop-high : goal.overflow_sub-at-in-loop-high
overflow_sub-at-in-loop-high g c = omega (arith, length-decimal-div c.loop-high.high c.loop-high-test.true (omega arith), c.loop-high.invariant.room)

pub loop-high-preserved : goal.loop-high-preserved
loop-high-preserved g c =
    let high = c.loop-high.high in
    let at = c.loop-high.at in
    let shorter = length-decimal-div high c.loop-high-test.true (omega arith) in
    let back : at - 1 + 1 ≡ at = omega (arith, shorter, c.loop-high.invariant.room) in
    record {
      slots = length-set c.loop-high.slot at _ ∙ c.loop-high.invariant.slots;
      in_range = omega (arith, c.loop-high.invariant.in_range);
      room = omega (arith, shorter, c.loop-high.invariant.room);
      whole = rw back (digit_put (decimal c.args.n) high at c.loop-high.slot c.loop-high-test.true (omega arith) (omega (arith, c.loop-high.invariant.slots)) c.loop-high.invariant.whole);
    }

pub returns : goal.returns
returns g c =
    let slot = set c.loop-high.slot c.loop-high.at (48 + c.loop-high.high) in
    writes_text
    (take_all (20 - c.loop-high.at) (drop c.loop-high.at slot) (omega (arith, length-drop c.loop-high.at slot, length-set c.loop-high.slot c.loop-high.at (48 + c.loop-high.high), c.loop-high.invariant.slots)) ∙
    first_digit_put (decimal c.args.n) c.loop-high.high c.loop-high.at c.loop-high.slot c.loop-high-test.false (omega (arith, c.loop-high.invariant.slots)) c.loop-high.invariant.whole)
    c.write.ensures
