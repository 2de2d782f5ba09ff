use Rattle.std.proofs.Common.{ℕ, Some, subst}
use Rattle.dcel_triangulations.specs.Calls.{AreSo}
use Rattle.dcel_triangulations.specs.constrained.Adding.{AddsSegment, FailsToAddSegment}
use Rattle.dcel_triangulations.specs.constrained.Held.{Kept}
use Rattle.dcel_triangulations.proofs.constrained.adding.dcel_constrained_add_constraint.Goals as goal

pub returns-in-Ok-clause-done : goal.returns-in-Ok-clause-done
returns-in-Ok-clause-done c =
    let old = c.as_mut-kept.result.now in
    let new = c.try_add_constraint.new.self in
    let added = c.in-Ok.is_new in
    let known = c.try_add_constraint.ensures in
    λ _.
    subst (λ (kept : Kept). AreSo (AddsSegment c.args.from c.args.to added) kept (Some new)) c.as_mut-kept.ensures.value
    (subst (λ (v : ℕ). AddsSegment v c.args.to added old new) c.vertex.ensures
    (subst (λ (w : ℕ). AddsSegment c.vertex.result w added old new) c.vertex-2.ensures (record {
      constrained = c.in-Ok.ensures.constrained;
      keeps = known.keeps;
      only = known.only;
      points = known.points;
      told = c.in-Ok.ensures.added;
      whole = c.in-Ok.ensures.whole;
      same = λ whole none. (known.same whole none).0;
    })))

pub returns-in-Err-clause-fails : goal.returns-in-Err-clause-fails
returns-in-Err-clause-fails c =
    let old = c.as_mut-kept.result.now in
    let new = c.try_add_constraint.new.self in
    let status = c.status_of_constraint.result in
    let known = c.try_add_constraint.ensures in
    λ _ _.
    subst (λ (kept : Kept). AreSo (FailsToAddSegment c.args.from c.args.to status) kept (Some new)) c.as_mut-kept.ensures.value
    (subst (λ (v : ℕ). FailsToAddSegment v c.args.to status old new) c.vertex.ensures
    (subst (λ (w : ℕ). FailsToAddSegment c.vertex.result w status old new) c.vertex-2.ensures (record {
      error = c.in-Err.error;
      why = c.status_of_constraint.ensures;
      fails = c.in-Err.ensures.refuses;
      keeps = known.keeps;
      only = known.only;
      points = known.points;
      same = known.same;
    })))
