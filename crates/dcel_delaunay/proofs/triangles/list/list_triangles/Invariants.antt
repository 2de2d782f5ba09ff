use Rattle.std.proofs.Common.{◌-◌, length}
use Rattle.dcel_delaunay.proofs.listing.Faces.{NumberedSoFar}
use Rattle.dcel_delaunay.proofs.triangles.list.list_triangles.Given as goal

-- the triangles before `place` have numbers of points
abbrev pub invariant-loop-place : goal.invariant-loop-place
invariant-loop-place g l = NumberedSoFar l.mesh.shape l.numbers l.place l.list.items

abbrev pub decreases-loop-place : goal.decreases-loop-place
decreases-loop-place g l = length l.list.items - l.place
