use Rattle.std.proofs.Common.{◌≡◌, ◌*◌, ◌%◌, ◌^◌, ◌≤◌, ◌⊎◌, ℕ, inl, inr, ap, ◌∙◌, arith}
use Rattle.dcel_decimals.proofs.steps.Steps.of.Goals as goal
use Rattle.dcel_decimals.proofs.steps.Steps.of.Goals.{then-loop-left-test+else-size-eq0, else-loop-left-test}
use Rattle.dcel_decimals.proofs.Halvings.{halved_once, odd_rest, rest_below, together, unit_is}

pub loop-left-preserved : goal.loop-left-preserved
loop-left-preserved c =
    let before = c.loop-left.invariant in record {
      few = omega (arith, before.few);
      same = halved_once c.loop-left.size c.args.places c.args.size c.loop-left.left c.if-size-eq0.true c.loop-left-test.true before.same;
    }

ended : (c : goal.Left-loop-left) → (c.loop-left.left ≤ 0) ⊎ (c.loop-left.size % 2 ≡ 0 → ⊥)
ended c = elim c.loop-left-test.branch [ then-loop-left-test+else-size-eq0 w ↦ inr w.if-size-eq0.false | else-loop-left-test w ↦ inl w.loop-left-test.false ]

pub invariant_of-result : goal.invariant_of-result
invariant_of-result c =
    let size = c.loop-left.size in
    let left = c.loop-left.left in
    let few : left ≤ 106 = omega (arith, c.loop-left.invariant.few) in record {
      few_places = few;
      behind = rest_below size left _ (unit_is left few);
      shortest = λ even. odd_rest size left _ (unit_is left few) (ended c) even;
    }

pub returns-clause-value : goal.returns-clause-value
returns-clause-value c =
    let size = c.loop-left.size in
    let left = c.loop-left.left in
    let few : left ≤ 106 = omega (arith, c.loop-left.invariant.few) in
    ap (λ (n : ℕ). n * 2 ^ c.args.places) (together size left _ (unit_is left few)) ∙ c.loop-left.invariant.same
