use Rattle.std.proofs.Common.{◌≡◌, ◌≤◌, ◌<◌, ◌-◌, ◌≤ℤ◌, ℕ, pos}
use Rattle.dcel_plane.specs.Plane.{point_at}
use Rattle.dcel_predicates.specs.Determinants.{squared_distance_of}
use Rattle.mesh_page.proofs.constrained.listing.nearest_of_all.Given as goal

-- none of the first vertices is nearer than the one that is noted
abbrev pub invariant-loop-number : goal.invariant-loop-number
invariant-loop-number g l = record {
  up_to : l.number ≤ l.count;
  vertex : l.least < l.mesh.shape.vertices;
  distance : pos l.distance ≡ squared_distance_of (point_at l.mesh l.least) l.point;
  nearest : (w : ℕ) → w < l.number → squared_distance_of (point_at l.mesh l.least) l.point ≤ℤ squared_distance_of (point_at l.mesh w) l.point;
}

abbrev pub decreases-loop-number : goal.decreases-loop-number
decreases-loop-number g l = l.count - l.number
