use Rattle.std.proofs.Common.{map}
use Rattle.dcel_maps.specs.Shapes.{next_of}
use Rattle.dcel_maps.specs.Walking.{ccw_of, walk_of}
use Rattle.dcel_convenience.proofs.Gathered.{Gathers}
use Rattle.dcel_convenience.proofs.cutting_off.strip_around.Given as goal

abbrev pub invariant-loop-spoke : goal.invariant-loop-spoke
invariant-loop-spoke g l =
    let s = l.fn.outside.dcel.now.shape in
    Gathers (λ m h. next_of m.shape h) (map (next_of s) (walk_of s (ccw_of s) l.fn.outside.number)) l.strip.items l.spoke-iterator.items
