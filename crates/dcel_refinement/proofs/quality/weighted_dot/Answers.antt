use Rattle.std.proofs.Common.{◌∙◌, ℤ, pos, ◌*ℤ◌, ap, arith}
use Rattle.dcel_predicates.proofs.Machine.{held_128}
use Rattle.dcel_refinement.proofs.quality.weighted_dot.Goals as goal

pub returns : goal.returns
returns c =
    let is = held_128 c.dot_product.result (let h = c.dot_product.ensures.bound in omega arith) ∙ c.dot_product.ensures.value in
    held_128 c.weighted.result (let h = c.weighted.ensures.bound in omega arith) ∙ c.weighted.ensures.value ∙ ap (λ (z : ℤ). pos c.args.weight *ℤ z) is
