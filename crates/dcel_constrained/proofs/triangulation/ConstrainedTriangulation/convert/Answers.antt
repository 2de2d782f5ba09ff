use Rattle.std.proofs.Common.{◌≡◌, rules}
use Rattle.dcel_planar.specs.Growing.{IsTriangulation}
use Rattle.dcel_delaunay.specs.Triangulated.{mesh_in}
use Rattle.dcel_delaunay.proofs.Listed.{settled}
use Rattle.dcel_planar.proofs.Whole.{either_outside}
use Rattle.dcel_constrained.proofs.Copied.{copied_outline, copied_sound, none_marked}
use Rattle.dcel_constrained.proofs.Settled.{triangulated_of}
use Rattle.dcel_constrained.proofs.triangulation.ConstrainedTriangulation.convert.Goals as goal

pub invariant_of-planar : goal.invariant_of-planar
invariant_of-planar g c =
    let t = c.args.triangulation in
    let whole : IsTriangulation (mesh_in t) = settled t.planar t.listed c.requires.whole in
    let shape : c.in-Ok.dcel.shape ≡ (mesh_in t).shape = search rules in
    let points : c.in-Ok.dcel.vertex_data ≡ (mesh_in t).vertex_data = search rules in
    let sound = copied_sound (mesh_in t) c.in-Ok.dcel shape points c.new-due.result.items whole in
    record {
      triangulated = triangulated_of c.in-Ok.dcel c.new-due.result.items sound;
      outlined = ∣ either_outside c.in-Ok.dcel c.new-due.result.items (copied_outline (mesh_in t) c.in-Ok.dcel shape points whole) ∣₁;
    }

pub invariant_of-result-clause-listed : goal.invariant_of-result-clause-listed
invariant_of-result-clause-listed g c =
    let t = c.args.triangulation in
    let whole : IsTriangulation (mesh_in t) = settled t.planar t.listed c.requires.whole in
    let shape : c.in-Ok.dcel.shape ≡ (mesh_in t).shape = search rules in
    let points : c.in-Ok.dcel.vertex_data ≡ (mesh_in t).vertex_data = search rules in
    (copied_sound (mesh_in t) c.in-Ok.dcel shape points c.new-due.result.items whole).listed

pub returns-clause-free : goal.returns-clause-free
returns-clause-free g c u marked =
    none_marked _ (λ x k is. is) c.into_dcel-mesh.result.undirected_data c.in-Ok.dcel.undirected_data c.in-Ok.ensures.answered u marked
