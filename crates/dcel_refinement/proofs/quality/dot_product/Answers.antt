use Rattle.dcel_refinement.proofs.Dots.{dot_is, dot_within, sum_fits, x_product_fits, y_product_fits}
use Rattle.dcel_refinement.proofs.quality.dot_product.Goals as goal

pub overflow_mul-result : goal.overflow_mul-result
overflow_mul-result c = x_product_fits c.args.a c.args.b c.args.p

pub overflow_mul-result-2 : goal.overflow_mul-result-2
overflow_mul-result-2 c = y_product_fits c.args.a c.args.b c.args.p

pub overflow_add-result : goal.overflow_add-result
overflow_add-result c = sum_fits c.args.a c.args.b c.args.p

pub returns-clause-value : goal.returns-clause-value
returns-clause-value c = dot_is c.args.a c.args.b c.args.p

pub returns-clause-bound : goal.returns-clause-bound
returns-clause-bound c = rw (dot_is c.args.a c.args.b c.args.p) (dot_within c.args.a c.args.b c.args.p)
