use Rattle.std.proofs.Common.{◌≡◌, ◌++◌, drop, map, take}
use Rattle.dcel_output.specs.Numbering.{number_at}
use Rattle.dcel_output.proofs.numbering.number_vertices.Given as goal

abbrev pub invariant-loop-vertex : goal.invariant-loop-vertex
invariant-loop-vertex l = l.vertices ≡ map (number_at l.numbers) (take l.vertex-index l.fn.vertices) ++ drop l.vertex-index l.fn.vertices
