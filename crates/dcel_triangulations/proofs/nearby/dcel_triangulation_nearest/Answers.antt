use Rattle.std.proofs.Common.{subst}
use Rattle.dcel_delaunay.specs.Triangulated.{mesh_in}
use Rattle.dcel_delaunay.proofs.Standing.{nearest_in}
use Rattle.dcel_triangulations.specs.Calls.{IsSo}
use Rattle.dcel_triangulations.specs.Held.{Kept}
use Rattle.dcel_triangulations.specs.Positions.{IsNearestTo}
use Rattle.dcel_triangulations.proofs.nearby.dcel_triangulation_nearest.Goals as goal

pub returns-clause-done : goal.returns-clause-done
returns-clause-done c =
    let found = c.nearest_vertex.ensures in
    λ _.
    subst (λ (kept : Kept). IsSo (IsNearestTo c.args.point c.tell_vertex.result) kept) c.as_mut-points.ensures.value
    (record {
      point = c.in-Some.point;
      is = c.in-Some.ensures.at;
      vertex = c.nearest_vertex.result;
      nearest = nearest_in (mesh_in c.as_mut-points.result.now) c.in-Some.point c.nearest_vertex.result found.vertex found.nearest found.none;
      tells = c.tell_vertex.ensures;
    })
