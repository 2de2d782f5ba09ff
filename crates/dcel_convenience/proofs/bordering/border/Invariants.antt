use Rattle.std.proofs.Common.{map}
use Rattle.dcel_convenience.proofs.Gathered.{Gathers}
use Rattle.dcel_convenience.proofs.bordering.border.Given as goal
use Rattle.spade_dcel.specs.Faces.{face_edges_of}

abbrev pub invariant-loop-edge : goal.invariant-loop-edge
invariant-loop-edge g l = Gathers (λ m h. h) (map (λ h. h) (face_edges_of l.fn.dcel 0)) l.border.items l.edge-iterator.items
