use Rattle.std.proofs.Common.{◌≡◌, ◌≤◌, ◌+◌, ◌∷◌, ◌++◌, [], length, length-append, arith, rules}
use Rattle.std.specs.Fmt.{decimal}
use Rattle.dcel_text.specs.Items.{left}
use Rattle.dcel_text.proofs.Runs.{items_of-few, runs_on, runs_to_the_end}
use Rattle.dcel_text.proofs.items.count_numbers.Goals as goal

pub loop-count-preserved : goal.loop-count-preserved
loop-count-preserved c =
    let so_far = c.loop-count.invariant in
    let n = c.in-Some-number_then.field-0-0 in
    let next : left c.loop-count.others ≡ decimal n ∷ left c.in-Some-number_then.more = search rules in
    record {
      numbers = so_far.numbers ++ n ∷ [];
      runs = runs_on _ so_far.numbers _ _ n so_far.runs next (search rules);
      counted = omega (arith, so_far.counted, length-append so_far.numbers (n ∷ []));
    }

pub returns : goal.returns
returns c =
    let so_far = c.loop-count.invariant in
    let few : length (left c.args.rest) ≤ length c.in-Some.bytes.now + 1 = rw c.in-Some.is (items_of-few c.in-Some.bytes.now) in (
      so_far.numbers,
      runs_to_the_end _ so_far.numbers _ so_far.runs (omega (arith, few, c.loop-count-test.false, so_far.counted)),
      omega (arith, c.loop-count-test.false, c.loop-count.auto.count-end, so_far.counted),
    )
