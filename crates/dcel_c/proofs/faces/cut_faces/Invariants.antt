use Rattle.std.proofs.Common.{◌≡◌, ◌≤◌, ◌-◌, ◌++◌, drop, length}
use Rattle.dcel_c.specs.Faces.{cut}
use Rattle.dcel_exchange.specs.Corners.{corners_of}
use Rattle.dcel_c.proofs.faces.cut_faces.Given as goal

-- some faces were cut off, and the others are to come
abbrev pub invariant-loop-at : goal.invariant-loop-at
invariant-loop-at l = record {
  up_to : l.at ≤ length l.counts;
  both : corners_of l.faces.items ++ cut (drop l.at l.counts) l.rest ≡ cut l.counts l.corners;
}

abbrev pub decreases-loop-at : goal.decreases-loop-at
decreases-loop-at l = length l.counts - l.at
