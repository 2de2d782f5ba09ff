use Rattle.std.proofs.Common.{◌≡◌, ◌++◌}
use Rattle.dcel_maps.specs.Numbers.{numbers_between}
use Rattle.dcel_delaunay.proofs.lists.vertices.Given as goal

abbrev pub invariant-loop-vertex : goal.invariant-loop-vertex
invariant-loop-vertex g l = l.list.items ++ l.vertex-iterator ≡ numbers_between 0 l.mesh.shape.vertices
