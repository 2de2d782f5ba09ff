use Rattle.std.proofs.Common.{◌<ℤ◌, length}
use Rattle.dcel_maps.specs.Shapes.{end_of}
use Rattle.dcel_plane.specs.Plane.{point_at}
use Rattle.dcel_predicates.specs.Determinants.{squared_distance_of}
use Rattle.dcel_planar.proofs.Searching.{IsSearching}
use Rattle.dcel_delaunay.proofs.locate.walk.nearer_neighbor.Given as goal

abbrev pub invariant-loop-edge : goal.invariant-loop-edge
invariant-loop-edge g l =
    IsSearching (λ h. squared_distance_of (point_at l.dcel (end_of l.dcel.shape h)) l.point <ℤ squared_distance_of (point_at l.dcel l.fn.vertex) l.point) l.dcel l.fn.vertex l.edges.items

abbrev pub decreases-loop-edge : goal.decreases-loop-edge
decreases-loop-edge g l = length l.edges.items
