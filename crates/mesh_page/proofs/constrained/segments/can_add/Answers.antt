use Rattle.std.proofs.Common.{◌↔◌, ℕ, IsTrue, subst}
use Rattle.dcel_constrained.specs.Constrained.{marked_mesh}
use Rattle.dcel_constrained.specs.Soundness.{CanAdd}
use Rattle.mesh_page.proofs.constrained.segments.can_add.Goals as goal

pub returns-clause-done : goal.returns-clause-done
returns-clause-done c =
    let m = marked_mesh c.args.points.now in
    let told = c.can_add_constraint.result in
    λ _.
    subst (λ (v : ℕ). IsTrue told ↔ CanAdd m v c.args.to) c.vertex.ensures
    (subst (λ (w : ℕ). IsTrue told ↔ CanAdd m c.vertex.result w) c.vertex-2.ensures c.can_add_constraint.ensures)
