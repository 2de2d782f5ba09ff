use Rattle.dcel_plane.specs.Plane.{point_at}
use Rattle.dcel_delaunay.proofs.Gathered.{Gathers}
use Rattle.dcel_delaunay.proofs.lists.points.Given as goal

abbrev pub invariant-loop-vertex : goal.invariant-loop-vertex
invariant-loop-vertex g l = Gathers (λ m v. point_at m v) l.mesh.vertex_data l.list.items l.vertex-iterator
