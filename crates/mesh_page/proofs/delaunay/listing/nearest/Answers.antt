use Rattle.dcel_delaunay.specs.Triangulated.{mesh_in}
use Rattle.dcel_delaunay.proofs.Standing.{nearest_in}
use Rattle.mesh_page.proofs.delaunay.listing.nearest.Goals as goal

pub returns-clause-done : goal.returns-clause-done
returns-clause-done c =
    let found = c.nearest_vertex.ensures in
    λ _. record {
      point = c.in-Some.point;
      is = record { x = c.in-Some.ensures.x; y = c.in-Some.ensures.y };
      vertex = c.nearest_vertex.result;
      nearest = nearest_in (mesh_in c.args.points.now) c.in-Some.point c.nearest_vertex.result found.vertex found.nearest found.none;
      tells = c.tell_vertex.ensures;
    }
