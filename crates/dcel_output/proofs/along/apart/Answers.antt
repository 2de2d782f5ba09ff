use Rattle.dcel_constrained.proofs.Widths.{apart_fits, apart_is, x_product_fits, y_product_fits}
use Rattle.dcel_output.proofs.along.apart.Goals as goal

pub overflow_mul-x : goal.overflow_mul-x
overflow_mul-x c = x_product_fits c.args.a c.args.b c.args.p

pub overflow_mul-y : goal.overflow_mul-y
overflow_mul-y c = y_product_fits c.args.a c.args.b c.args.p

pub overflow_add-result : goal.overflow_add-result
overflow_add-result c = apart_fits c.args.a c.args.b c.args.p

pub returns : goal.returns
returns c = apart_is c.args.a c.args.b c.args.p
