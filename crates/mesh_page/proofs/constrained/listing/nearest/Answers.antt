use Rattle.std.proofs.Common.{subst}
use Rattle.dcel_delaunay.proofs.Standing.{nearest_in}
use Rattle.mesh_page.specs.Listing.{IsNearestTo}
use Rattle.mesh_page.proofs.constrained.listing.nearest.Goals as goal

pub returns-clause-done : goal.returns-clause-done
returns-clause-done c =
    let found = c.nearest_of_all.ensures in
    λ _.
    subst (λ m. IsNearestTo c.args.given c.tell_vertex.result m) c.dcel.ensures.mesh (record {
      point = c.in-Some.point;
      is = record { x = c.in-Some.ensures.x; y = c.in-Some.ensures.y };
      vertex = c.nearest_of_all.result;
      nearest = nearest_in c.dcel.result.now c.in-Some.point c.nearest_of_all.result found.vertex found.nearest found.none;
      tells = c.tell_vertex.ensures;
    })
