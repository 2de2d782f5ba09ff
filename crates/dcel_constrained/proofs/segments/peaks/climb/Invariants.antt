use Rattle.std.proofs.Common.{◌≡◌, ◌+◌, ◌-◌, ◌<◌, length}
use Rattle.dcel_constrained.specs.Channels.{around}
use Rattle.dcel_constrained.proofs.segments.peaks.climb.Given as goal

abbrev pub invariant-loop-at : goal.invariant-loop-at
invariant-loop-at g l = record {
  same : around l.crossed.items l.at l.gap ≡ around l.fn.crossed.items l.start l.gap;
  within : l.at + l.gap < length l.crossed.items;
}

abbrev pub decreases-loop-at : goal.decreases-loop-at
decreases-loop-at g l = length l.crossed.items - l.at
