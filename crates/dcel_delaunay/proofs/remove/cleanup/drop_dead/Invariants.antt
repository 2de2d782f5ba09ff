use Rattle.std.proofs.Common.{◌-◌, vec_len}
use Rattle.dcel_maps.specs.Shapes.{edge_is_live}
use Rattle.dcel_delaunay.proofs.Fewer.{KeepsNeeded}
use Rattle.dcel_delaunay.proofs.remove.cleanup.drop_dead.Given as goal

abbrev pub invariant-loop-at : goal.invariant-loop-at
invariant-loop-at g l = KeepsNeeded (edge_is_live l.dcel.shape) l.fn.due.items l.due.items

abbrev pub decreases-loop-at : goal.decreases-loop-at
decreases-loop-at g l = vec_len l.due - l.at
