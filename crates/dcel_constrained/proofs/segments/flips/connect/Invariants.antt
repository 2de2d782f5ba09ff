use Rattle.std.proofs.Common.{unsigned_abs, ◌+◌, ◌≤◌, length}
use Rattle.dcel_plane.specs.Plane.{point_at}
use Rattle.dcel_plane.specs.segments.Segments.{widths}
use Rattle.dcel_constrained.specs.Channels.{around}
use Rattle.dcel_constrained.proofs.Stepwise.{IsOnWay}
use Rattle.dcel_constrained.proofs.segments.flips.connect.Given as goal

abbrev pub invariant-loop-gap : goal.invariant-loop-gap
invariant-loop-gap g l = record {
  way : IsOnWay l.fn.dcel l.fn.crossed.items l.fn.from l.fn.to l.dcel (around l.crossed.items l.at l.gap);
  within : l.at + l.gap ≤ length l.crossed.items;
}

-- each flip makes the list narrower
abbrev pub decreases-loop-gap : goal.decreases-loop-gap
decreases-loop-gap g l = unsigned_abs (widths (point_at l.dcel) l.dcel.shape l.from l.to (around l.crossed.items l.at l.gap))
