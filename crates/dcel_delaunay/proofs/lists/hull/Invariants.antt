use Rattle.std.proofs.Common.{map}
use Rattle.dcel_maps.specs.Shapes.{origin_of}
use Rattle.dcel_maps.specs.Walking.{hull_of}
use Rattle.dcel_delaunay.proofs.Gathered.{Gathers}
use Rattle.dcel_delaunay.proofs.lists.hull.Given as goal

abbrev pub invariant-loop-edge : goal.invariant-loop-edge
invariant-loop-edge g l = Gathers (λ m h. origin_of m.shape h) (map (origin_of l.mesh.shape) (hull_of l.mesh)) l.list.items l.edge-iterator.items
