use Rattle.std.proofs.Common.{length, map}
use Rattle.dcel_convenience.proofs.Gathered.{Gathers}
use Rattle.dcel_convenience.proofs.vertices.degrees.Given as goal
use Rattle.dcel_maps.specs.Numbers.{numbers_between}
use Rattle.dcel_maps.specs.Walking.{out_edges_of}

abbrev pub invariant-loop-vertex : goal.invariant-loop-vertex
invariant-loop-vertex g l =
    Gathers (λ m v. length (out_edges_of m v)) (map (λ v. length (out_edges_of l.fn.dcel v)) (numbers_between 0 l.fn.dcel.shape.vertices)) l.degrees.items l.vertex-iterator
