use Rattle.std.proofs.Common.{map}
use Rattle.dcel_maps.specs.Numbers.{numbers_between}
use Rattle.dcel_delaunay.specs.Lists.{ends_of}
use Rattle.dcel_delaunay.proofs.Gathered.{Gathers}
use Rattle.dcel_delaunay.proofs.lists.edges.Given as goal

abbrev pub invariant-loop-edge : goal.invariant-loop-edge
invariant-loop-edge g l = Gathers (λ m u. ends_of m.shape u) (map (ends_of l.mesh.shape) (numbers_between 0 l.mesh.shape.edges)) l.list.items l.edge-iterator
