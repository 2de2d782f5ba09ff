use Rattle.dcel_plane.proofs.laws.covering.no_vertex_lies_inside_a_circle.Goals as goal
use Rattle.dcel_plane.proofs.covering.Circles.{no_vertex_inside}

pub returns : goal.returns
returns g c = λ at m mesh triangles delaunay convex hull. no_vertex_inside m mesh triangles at delaunay convex hull
