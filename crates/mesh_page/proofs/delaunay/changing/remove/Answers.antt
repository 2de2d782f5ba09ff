use Rattle.std.proofs.Common.{ℕ, subst}
use Rattle.dcel_delaunay.specs.Removing.{Loses}
use Rattle.mesh_page.proofs.delaunay.changing.remove.Goals as goal

pub returns-in-Ok-clause-done : goal.returns-in-Ok-clause-done
returns-in-Ok-clause-done c = λ _. record {
  removed = c.in-Ok.removed;
  loses = subst (λ (v : ℕ). Loses c.args.points.now.planar.dcel c.remove.new.self.planar.dcel v c.in-Ok.removed) c.new-vertex.ensures c.in-Ok.ensures.removes;
  told = c.tell.ensures;
  whole = c.in-Ok.ensures.whole;
}
