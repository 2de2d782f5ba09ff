use Rattle.std.proofs.Common.{ℕ, subst}
use Rattle.dcel_constrained.specs.Removing.{LeavesConstraints, LosesConstraintsOf}
use Rattle.dcel_delaunay.specs.Removing.{FailsToRemove, Loses}
use Rattle.mesh_page.proofs.constrained.changing.remove.Goals as goal

pub returns-in-Ok-clause-done : goal.returns-in-Ok-clause-done
returns-in-Ok-clause-done c = λ _.
    let old = c.args.points.now.planar.dcel in
    let new = c.remove.new.self.planar.dcel in (
      record {
        removed = c.in-Ok.removed;
        loses = subst (λ (v : ℕ). Loses old new v c.in-Ok.removed) c.new-vertex.ensures c.in-Ok.ensures.removes;
        told = c.tell.ensures;
        whole = c.in-Ok.ensures.whole;
      },
      subst (λ (v : ℕ). LosesConstraintsOf old new v) c.new-vertex.ensures c.in-Ok.ensures.constraints,
    )

pub returns-in-Err-clause-fails : goal.returns-in-Err-clause-fails
returns-in-Err-clause-fails c = λ _.
    let old = c.args.points.now.planar in
    let new = c.remove.new.self.planar in (
      record {
        error = c.in-Err.error;
        why = c.status_of_removal.ensures;
        fails = subst (λ (v : ℕ). FailsToRemove old new v c.in-Err.error) c.new-vertex.ensures c.in-Err.ensures.refuses;
        told = c.tell_after.ensures;
      },
      record {
        error = c.in-Err.error;
        why = c.status_of_removal.ensures;
        left = subst (λ (v : ℕ). LeavesConstraints old.dcel new.dcel v c.in-Err.error) c.new-vertex.ensures c.in-Err.ensures.left;
      },
    )
