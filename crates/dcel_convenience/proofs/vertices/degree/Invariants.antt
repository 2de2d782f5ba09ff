use Rattle.std.proofs.Common.{◌≡◌, ◌+◌, length}
use Rattle.dcel_maps.specs.Walking.{out_edges_of}
use Rattle.dcel_convenience.proofs.vertices.degree.Given as goal

abbrev pub invariant-loop : goal.invariant-loop
invariant-loop g l = l.count + length l.iterator'.items ≡ length (out_edges_of l.fn.vertex.dcel.now l.fn.vertex.number)
