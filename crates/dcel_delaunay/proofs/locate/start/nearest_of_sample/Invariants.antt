use Rattle.std.proofs.Common.{◌-◌}
use Rattle.dcel_delaunay.proofs.locate.start.nearest_of_sample.Given as goal

abbrev pub decreases-loop-number : goal.decreases-loop-number
decreases-loop-number g l = l.count - l.number
