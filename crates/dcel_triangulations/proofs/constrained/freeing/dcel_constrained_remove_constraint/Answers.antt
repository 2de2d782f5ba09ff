use Rattle.std.proofs.Common.{ℕ, IsOk, Some, sym, subst, true≢false}
use Rattle.dcel_triangulations.specs.Calls.{AreSo}
use Rattle.dcel_triangulations.specs.constrained.Freeing.{FailsToFreeEdge, FreesEdge}
use Rattle.dcel_triangulations.specs.constrained.Held.{Kept}
use Rattle.dcel_triangulations.proofs.constrained.freeing.dcel_constrained_remove_constraint.Goals as goal

pub returns-in-Ok-clause-done : goal.returns-in-Ok-clause-done
returns-in-Ok-clause-done c =
    let old = c.as_mut.result.now in
    let new = c.remove_constraint_edge.new.self in
    let was = c.in-Ok.was_one in
    λ _.
    subst (λ (kept : Kept). AreSo (FreesEdge c.args.edge was) kept (Some new)) c.as_mut.ensures.value
    (subst (λ (n : ℕ). FreesEdge n was old new) c.new-edge.ensures (record {
      told = c.in-Ok.ensures.answer;
      freed = c.in-Ok.ensures.freed;
      others = c.remove_constraint_edge.ensures.others;
      points = c.remove_constraint_edge.ensures.points;
      whole = c.in-Ok.ensures.whole;
      same = c.in-Ok.ensures.same;
    }))

pub returns-in-Err-clause-no_memory : goal.returns-in-Err-clause-no_memory
returns-in-Err-clause-no_memory c =
    let old = c.as_mut.result.now in
    let new = c.remove_constraint_edge.new.self in
    λ _.
    subst (λ (kept : Kept). AreSo (FailsToFreeEdge c.args.edge) kept (Some new)) c.as_mut.ensures.value
    (subst (λ (n : ℕ). FailsToFreeEdge n old new) c.new-edge.ensures (record {
      others = c.remove_constraint_edge.ensures.others;
      points = c.remove_constraint_edge.ensures.points;
      same = c.in-Err.ensures.refused;
      reason = λ whole free. true≢false (sym (subst (λ r. IsOk r) c.in-Err.is (c.remove_constraint_edge.ensures.ready whole free)));
    }))
