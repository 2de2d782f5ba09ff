use Rattle.std.proofs.Common.{◌∙◌, ℤ, pos, ◌*ℤ◌, ap, arith}
use Rattle.dcel_predicates.proofs.Machine.{held_128}
use Rattle.dcel_refinement.proofs.quality.weighted_area.Goals as goal

pub returns : goal.returns
returns c =
    let is = held_128 c.orient2d.result (let h = c.orient2d.ensures.bound in omega arith) ∙ c.orient2d.ensures.value in
    held_128 c.weighted.result (let h = c.weighted.ensures.bound in omega arith) ∙ c.weighted.ensures.value ∙ ap (λ (z : ℤ). pos c.args.weight *ℤ z) is
