use Rattle.dcel_plane.proofs.laws.covering.triangles_dont_overlap.Goals as goal
use Rattle.dcel_plane.proofs.covering.Overlaps.{disjoint_triangles}

pub returns : goal.returns
returns g c = λ at m mesh triangles plane convex hull. disjoint_triangles m mesh triangles at plane convex hull
