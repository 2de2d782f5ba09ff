use Rattle.std.proofs.Common.{◌≡◌, subst}
use Rattle.dcel_maps.specs.Shapes.{IsMesh}
use Rattle.dcel_delaunay.proofs.listing.Known.{IsKnown, Points}
use Rattle.dcel_output.proofs.Faces.{numbered_delaunay}
use Rattle.dcel_output.proofs.laws.numbered_triangles_are_delaunay.Goals as goal

pub returns : goal.returns
returns g c = λ points numbers whole numbered.
    let m : Points = c.args.triangulation.now.planar.dcel in
    let seen : Points = c.dcel-mesh.result.now in
    let same : seen ≡ m = c.dcel-mesh.ensures.mesh in
    let facts = c.dcel-mesh.ensures in
    let mesh : IsMesh m = subst (λ (k : Points). IsMesh k) same c.every_mesh.ensures in
    let known : IsKnown m points numbered.vertices numbers = record {
      mesh = mesh;
      closed = facts.closed;
      joined = facts.joined;
      delaunay = facts.delaunay whole;
      circles = facts.circles whole;
      apart = facts.apart whole;
      covers = facts.covers whole;
      single = facts.single whole;
      hull = facts.hull whole;
      stand = numbered.stand;
      from = numbered.from;
      least = numbered.least;
      count = numbered.count;
    } in
    numbered_delaunay m mesh facts.closed facts.triangles numbers numbered.count points numbered.vertices known
