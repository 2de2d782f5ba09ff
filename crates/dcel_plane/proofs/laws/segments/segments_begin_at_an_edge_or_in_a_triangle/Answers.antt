use Rattle.dcel_plane.proofs.segments.Starting.{found}
use Rattle.dcel_plane.proofs.laws.segments.segments_begin_at_an_edge_or_in_a_triangle.Goals as goal

pub returns : goal.returns
returns g c = λ at m v w h mesh triangles plane convex hull differ ends live inner. found m mesh triangles at plane convex hull v w differ ends h live inner
