use Rattle.std.proofs.Common.{map}
use Rattle.dcel_delaunay.specs.Lists.{corners_of, inner_faces}
use Rattle.dcel_delaunay.proofs.Gathered.{Gathers}
use Rattle.dcel_delaunay.proofs.lists.triangles.Given as goal

abbrev pub invariant-loop-face : goal.invariant-loop-face
invariant-loop-face g l = Gathers (λ m f. corners_of m f) (map (corners_of l.mesh) (inner_faces l.mesh.shape)) l.list.items l.face-iterator
