use Rattle.std.proofs.Common.{ℕ, subst}
use Rattle.mesh_page.specs.Constraining.{AddsSegment, FailsToAddSegment}
use Rattle.mesh_page.proofs.constrained.segments.add.Goals as goal

pub returns-in-Ok-clause-done : goal.returns-in-Ok-clause-done
returns-in-Ok-clause-done c =
    let old = c.args.points.now in
    let new = c.try_add_constraint.new.self in
    let known = c.try_add_constraint.ensures in
    λ _.
    subst (λ (v : ℕ). AddsSegment v c.args.to old new) c.vertex.ensures
    (subst (λ (w : ℕ). AddsSegment c.vertex.result w old new) c.vertex-2.ensures (record {
      constrained = c.in-Ok.ensures.constrained;
      keeps = known.keeps;
      only = known.only;
      points = known.points;
      whole = c.in-Ok.ensures.whole;
      same = λ whole none. (known.same whole none).0;
    }))

pub returns-in-Err-clause-fails : goal.returns-in-Err-clause-fails
returns-in-Err-clause-fails c =
    let old = c.args.points.now in
    let new = c.try_add_constraint.new.self in
    let status = c.status_of_constraint.result in
    let known = c.try_add_constraint.ensures in
    λ _.
    subst (λ (v : ℕ). FailsToAddSegment v c.args.to status old new) c.vertex.ensures
    (subst (λ (w : ℕ). FailsToAddSegment c.vertex.result w status old new) c.vertex-2.ensures (record {
      error = c.in-Err.error;
      why = c.status_of_constraint.ensures;
      fails = c.in-Err.ensures.refuses;
      keeps = known.keeps;
      only = known.only;
      points = known.points;
      same = known.same;
    }))
