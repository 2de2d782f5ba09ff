use Rattle.std.proofs.Common.{map}
use Rattle.dcel_delaunay.specs.Lists.{across_of, inner_faces}
use Rattle.dcel_delaunay.proofs.Gathered.{Gathers}
use Rattle.dcel_delaunay.proofs.lists.neighbors.Given as goal

abbrev pub invariant-loop-face : goal.invariant-loop-face
invariant-loop-face g l = Gathers (λ m f. across_of m f) (map (across_of l.mesh) (inner_faces l.mesh.shape)) l.list.items l.face-iterator
