use Rattle.std.proofs.Common.{◌↔◌, ℕ, IsTrue, subst}
use Rattle.dcel_constrained.specs.Constrained.{marked_mesh}
use Rattle.dcel_constrained.specs.Soundness.{AreConstrained}
use Rattle.mesh_page.proofs.constrained.segments.exists.Goals as goal

pub returns : goal.returns
returns c =
    let m = marked_mesh c.args.points.now in
    let told = c.exists_constraint.result in
    subst (λ (v : ℕ). IsTrue told ↔ AreConstrained m v c.args.to) c.vertex.ensures
    (subst (λ (w : ℕ). IsTrue told ↔ AreConstrained m c.vertex.result w) c.vertex-2.ensures c.exists_constraint.ensures)
