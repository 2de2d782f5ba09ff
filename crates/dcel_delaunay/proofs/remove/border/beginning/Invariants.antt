use Rattle.std.proofs.Common.{length}
use Rattle.dcel_plane.specs.Plane.{point_at}
use Rattle.dcel_plane.specs.removal.Wheels.{MakesTwo}
use Rattle.dcel_planar.proofs.Searching.{IsSearching}
use Rattle.dcel_delaunay.proofs.remove.border.beginning.Given as goal

abbrev pub invariant-loop-edge : goal.invariant-loop-edge
invariant-loop-edge g l = IsSearching (λ h. MakesTwo (point_at l.dcel) l.dcel.shape h) l.dcel l.fn.vertex l.edges.items

abbrev pub decreases-loop-edge : goal.decreases-loop-edge
decreases-loop-edge g l = length l.edges.items
