use Rattle.std.proofs.Common.{subst}
use Rattle.dcel_maps.specs.Shapes.{IsMesh}
use Rattle.dcel_delaunay.specs.Triangulated.{mesh_in}
use Rattle.dcel_delaunay.proofs.listing.Known.{Points}
use Rattle.mesh_page.proofs.WholeListed.{whole_listed}
use Rattle.mesh_page.proofs.delaunay.listing.list_triangles.Goals as goal

pub returns-in-Ok-clause-delaunay : goal.returns-in-Ok-clause-delaunay
returns-in-Ok-clause-delaunay c =
    let m : Points = mesh_in c.args.points.now in
    let known = c.dcel-mesh.ensures in
    let mesh : IsMesh m = subst (λ (k : Points). IsMesh k) known.mesh c.every_mesh.ensures in
    λ _ whole.
    whole_listed m mesh known.closed known.triangles known.joined (known.delaunay whole) (known.circles whole) (known.apart whole) (known.covers whole) (known.single whole) (known.hull whole)
