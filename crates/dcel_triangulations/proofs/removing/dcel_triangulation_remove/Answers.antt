use Rattle.std.proofs.Common.{ℕ, Some, subst}
use Rattle.dcel_delaunay.specs.Removing.{Loses}
use Rattle.dcel_triangulations.specs.Calls.{AreSo}
use Rattle.dcel_triangulations.specs.Held.{Kept}
use Rattle.dcel_triangulations.specs.Removing.{RemovesVertex}
use Rattle.dcel_triangulations.proofs.removing.dcel_triangulation_remove.Goals as goal

pub returns-in-Ok-clause-done : goal.returns-in-Ok-clause-done
returns-in-Ok-clause-done c = λ _.
    subst (λ (kept : Kept). AreSo (RemovesVertex c.args.vertex c.tell.result) kept (Some c.remove.new.self)) c.as_mut.ensures.value
    (record {
      removed = c.in-Ok.removed;
      loses = subst (λ (v : ℕ). Loses c.as_mut.result.now.planar.dcel c.remove.new.self.planar.dcel v c.in-Ok.removed) c.new-vertex.ensures c.in-Ok.ensures.removes;
      told = c.tell.ensures;
      whole = c.in-Ok.ensures.whole;
    })
