use Rattle.std.proofs.Common.{map}
use Rattle.dcel_maps.specs.Numbers.{numbers_between}
use Rattle.dcel_delaunay.proofs.Gathered.{Gathers}
use Rattle.dcel_output.specs.Keeping.{is_beside}
use Rattle.dcel_output.proofs.beside.edges_beside.Given as goal

abbrev pub invariant-loop-edge : goal.invariant-loop-edge
invariant-loop-edge g l = Gathers (λ m u. is_beside m.shape l.flags u) (map (is_beside l.mesh.shape l.flags) (numbers_between 0 l.mesh.shape.edges)) l.list.items l.edge-iterator
