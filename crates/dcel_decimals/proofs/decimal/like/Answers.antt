use Rattle.std.proofs.Common.{◌∙◌, ap, arith, rules, ℤ, pos, ◌*ℤ◌, ◌<ℤ◌, ◌≤ℤ◌}
use Rattle.std.specs.Int.{w128}
use Rattle.std.proofs.lemmas.Int.{ints, to_z-of_z}
use Rattle.dcel_decimals.proofs.decimal.like.Goals as goal
use Rattle.dcel_decimals.proofs.Signed.{like-negative, like-positive}

pub returns-then-number-lt0-clause-value : goal.returns-then-number-lt0-clause-value
returns-then-number-lt0-clause-value c = λ k l e.
    let below : c.args.number <ℤ pos 0 = grind (arith, ints) in
    ap (λ (z : ℤ). z *ℤ pos k) (to_z-of_z w128 c.signed.result (search rules) ∙ c.signed.ensures.value) ∙ like-negative c.args.number c.args.size k l below e

pub returns-else-number-lt0-clause-value : goal.returns-else-number-lt0-clause-value
returns-else-number-lt0-clause-value c = λ k l e.
    let above : pos 0 ≤ℤ c.args.number = grind (arith, ints) in
    let r = c.signed-else-number-lt0 in
    ap (λ (z : ℤ). z *ℤ pos k) (to_z-of_z w128 r.result (search rules) ∙ r.ensures.value) ∙ like-positive c.args.number c.args.size k l above e
