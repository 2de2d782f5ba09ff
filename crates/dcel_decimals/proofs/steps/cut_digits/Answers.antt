use Rattle.std.proofs.Common.{◌-◌, arith}
use Rattle.dcel_decimals.proofs.steps.cut_digits.Goals as goal
use Rattle.dcel_decimals.proofs.Halvings.{fits_times, nine_digits, unit_is}

pub overflow_mul-size : goal.overflow_mul-size
overflow_mul-size c = let h = fits_times c.args.rest c.args.places c.requires.behind c.requires.few in omega (arith, h)

pub overflow_cast-result : goal.overflow_cast-result
overflow_cast-result c = let h = nine_digits c.args.rest c.args.places _ (unit_is (c.args.places - 9) (omega (arith, c.requires.few))) c.requires.behind c.requires.more in omega (arith, h)

pub returns-clause-digits : goal.returns-clause-digits
returns-clause-digits c = nine_digits c.args.rest c.args.places _ (unit_is (c.args.places - 9) (omega (arith, c.requires.few))) c.requires.behind c.requires.more
