use Rattle.std.proofs.Common.{map}
use Rattle.dcel_convenience.proofs.Gathered.{Gathers}
use Rattle.dcel_convenience.proofs.bordering.border_vertices.Given as goal
use Rattle.dcel_maps.specs.Shapes.{origin_of}
use Rattle.spade_dcel.specs.Faces.{face_edges_of}

abbrev pub invariant-loop-edge : goal.invariant-loop-edge
invariant-loop-edge g l =
    Gathers (λ m h. origin_of m.shape h) (map (origin_of l.fn.dcel.shape) (face_edges_of l.fn.dcel 0)) l.border.items l.edge-iterator.items
