use Rattle.std.proofs.Common.{length}
use Rattle.dcel_plane.specs.Plane.{point_at}
use Rattle.dcel_plane.specs.segments.Segments.{LeadsAlong}
use Rattle.dcel_planar.proofs.Searching.{IsSearching}
use Rattle.dcel_constrained.proofs.segments.ways.first_along.Given as goal

abbrev pub invariant-loop-edge : goal.invariant-loop-edge
invariant-loop-edge g l = IsSearching (LeadsAlong (point_at l.dcel) l.dcel.shape l.from l.to) l.dcel l.from l.edges.items

abbrev pub decreases-loop-edge : goal.decreases-loop-edge
decreases-loop-edge g l = length l.edges.items
