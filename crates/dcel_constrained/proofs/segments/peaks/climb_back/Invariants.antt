use Rattle.std.proofs.Common.{◌≡◌, ◌+◌, ◌<◌, length}
use Rattle.dcel_plane.specs.Plane.{point_at}
use Rattle.dcel_constrained.specs.Channels.{IsNotWiderAfter, around}
use Rattle.dcel_constrained.proofs.segments.peaks.climb_back.Given as goal

abbrev pub invariant-loop-at : goal.invariant-loop-at
invariant-loop-at g l = record {
  same : around l.crossed.items l.at l.gap ≡ around l.fn.crossed.items l.start l.gap;
  within : l.at + l.gap < length l.crossed.items;
  after : IsNotWiderAfter (point_at l.dcel) l.dcel.shape l.from l.to (around l.fn.crossed.items l.start l.gap) l.at;
}

abbrev pub decreases-loop-at : goal.decreases-loop-at
decreases-loop-at g l = l.at
