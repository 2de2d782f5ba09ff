use Rattle.std.proofs.Common.{ℕ, Some, subst}
use Rattle.dcel_delaunay.specs.Removing.{Loses}
use Rattle.dcel_constrained.specs.Removing.{LosesConstraintsOf}
use Rattle.dcel_triangulations.specs.Calls.{AreSo}
use Rattle.dcel_triangulations.specs.constrained.Held.{Kept}
use Rattle.dcel_triangulations.specs.constrained.Removing.{RemovesVertex}
use Rattle.dcel_triangulations.proofs.constrained.removing.dcel_constrained_remove.Goals as goal

pub returns-in-Ok-clause-done : goal.returns-in-Ok-clause-done
returns-in-Ok-clause-done c = λ _.
    let old = c.as_mut.result.now.planar.dcel in
    let new = c.remove.new.self.planar.dcel in
    subst (λ (kept : Kept). AreSo (RemovesVertex c.args.vertex c.tell.result) kept (Some c.remove.new.self)) c.as_mut.ensures.value
    (record {
      removed = c.in-Ok.removed;
      loses = subst (λ (v : ℕ). Loses old new v c.in-Ok.removed) c.new-vertex.ensures c.in-Ok.ensures.removes;
      constraints = subst (λ (v : ℕ). LosesConstraintsOf old new v) c.new-vertex.ensures c.in-Ok.ensures.constraints;
      told = c.tell.ensures;
      whole = c.in-Ok.ensures.whole;
    })
