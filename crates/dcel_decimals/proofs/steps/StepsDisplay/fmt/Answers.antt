use Rattle.std.proofs.Common.{arith}
use Rattle.dcel_decimals.proofs.steps.StepsDisplay.fmt.Goals as goal
use Rattle.dcel_decimals.proofs.Halvings.{few_fives, last_digits}

pub pow-requires : goal.pow-requires
pow-requires g c = few_fives c.loop-places.places c.loop-places-test.false

pub overflow_mul-digits : goal.overflow_mul-digits
overflow_mul-digits g c = let h = last_digits c.loop-places.rest c.loop-places.places c.pow.result c.pow.ensures c.loop-places.invariant.behind c.loop-places-test.false in omega (arith, h)
