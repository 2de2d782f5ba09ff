use Rattle.std.proofs.Common.{map}
use Rattle.dcel_maps.specs.Shapes.{next_of}
use Rattle.dcel_maps.specs.Walking.{ccw_of, walk_of}
use Rattle.dcel_convenience.proofs.Gathered.{Gathers}
use Rattle.dcel_convenience.proofs.taking_out.border_from.Given as goal

abbrev pub invariant-loop-spoke : goal.invariant-loop-spoke
invariant-loop-spoke g l =
    let s = l.fn.first.dcel.now.shape in
    Gathers (λ m h. next_of m.shape h) (map (next_of s) (walk_of s (ccw_of s) l.fn.first.number)) l.border.items l.spoke-iterator.items
