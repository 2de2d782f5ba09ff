use Rattle.dcel_predicates.proofs.angle.Angle.exceeds.Goals as goal
use Rattle.dcel_predicates.proofs.Narrow.{products_compared, wide_product_fits}

pub overflow_mul-result : goal.overflow_mul-result
overflow_mul-result c = let s = c.args.self in let o = c.args.other in wide_product_fits o.sine s.cosine o.sine_in_range s.cosine_in_range

pub overflow_mul-result-2 : goal.overflow_mul-result-2
overflow_mul-result-2 c = let s = c.args.self in let o = c.args.other in wide_product_fits s.sine o.cosine s.sine_in_range o.cosine_in_range

pub returns : goal.returns
returns c =
    let s = c.args.self in
    let o = c.args.other in
    products_compared o.sine s.cosine s.sine o.cosine o.sine_in_range s.cosine_in_range s.sine_in_range o.cosine_in_range
