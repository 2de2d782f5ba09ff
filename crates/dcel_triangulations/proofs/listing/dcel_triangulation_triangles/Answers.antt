use Rattle.std.proofs.Common.{subst}
use Rattle.dcel_maps.specs.Shapes.{IsMesh}
use Rattle.dcel_delaunay.specs.Triangulated.{mesh_in}
use Rattle.dcel_delaunay.proofs.listing.Known.{Points}
use Rattle.dcel_triangulations.specs.Calls.{IsSo, IsWhole}
use Rattle.dcel_triangulations.specs.Held.{Kept, State}
use Rattle.dcel_triangulations.specs.Lists.{ListsDelaunayTriangles}
use Rattle.dcel_triangulations.proofs.Delaunay.{whole_listed}
use Rattle.dcel_triangulations.proofs.listing.dcel_triangulation_triangles.Goals as goal

pub returns-in-Ok-clause-delaunay : goal.returns-in-Ok-clause-delaunay
returns-in-Ok-clause-delaunay c =
    let m : Points = mesh_in c.as_mut.result.now in
    let known = c.dcel-mesh.ensures in
    let mesh : IsMesh m = subst (λ (k : Points). IsMesh k) known.mesh c.every_mesh.ensures in
    λ _ _.
    subst (λ (kept : Kept). IsSo (λ (t : State). IsWhole t → ListsDelaunayTriangles t) kept) c.as_mut.ensures.value
    (λ whole. whole_listed m mesh known.closed known.triangles known.joined (known.delaunay whole) (known.circles whole) (known.apart whole) (known.covers whole) (known.single whole) (known.hull whole))
