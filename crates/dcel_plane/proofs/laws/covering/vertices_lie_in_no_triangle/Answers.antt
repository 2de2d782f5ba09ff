use Rattle.dcel_plane.proofs.laws.covering.vertices_lie_in_no_triangle.Goals as goal
use Rattle.dcel_plane.proofs.covering.Apart.{mesh_apart}

pub returns : goal.returns
returns g c = λ at m mesh triangles plane convex hull. mesh_apart m mesh triangles at plane convex hull
