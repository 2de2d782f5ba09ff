use Rattle.std.proofs.Common.{◌≡◌, subst}
use Rattle.dcel_maps.specs.Shapes.{IsMesh}
use Rattle.dcel_delaunay.proofs.listing.Known.{Points}
use Rattle.dcel_output.proofs.laws.whole_meshes_are_delaunay.Goals as goal

pub returns : goal.returns
returns g c = λ points numbers whole numbered.
    let m : Points = c.args.triangulation.now.planar.dcel in
    let seen : Points = c.dcel-mesh.result.now in
    let same : seen ≡ m = c.dcel-mesh.ensures.mesh in
    let facts = c.dcel-mesh.ensures in
    record {
      numbered = numbered;
      mesh = subst (λ (k : Points). IsMesh k) same c.every_mesh.ensures;
      closed = facts.closed;
      triangles = facts.triangles;
      joined = facts.joined;
      delaunay = facts.delaunay whole;
      circles = facts.circles whole;
      apart = facts.apart whole;
      covers = facts.covers whole;
      single = facts.single whole;
      hull = facts.hull whole;
    }
