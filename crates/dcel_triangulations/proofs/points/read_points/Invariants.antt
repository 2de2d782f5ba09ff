use Rattle.std.proofs.Common.{◌≡◌, ◌≤◌, ◌<◌, ◌-◌, ℕ, Some, length, slice_get, take}
use Rattle.dcel_triangulations.specs.Points.{AreRead, IsFar}
use Rattle.dcel_triangulations.specs.declared.points.DcelPoint.{DcelPoint}
use Rattle.dcel_triangulations.proofs.points.read_points.Given as goal

-- the first points were read, and none of them is far
abbrev pub invariant-loop-at : goal.invariant-loop-at
invariant-loop-at l = record {
  up_to : l.at ≤ length l.given;
  read : AreRead (take l.at l.given) l.points.items;
  near : (i : ℕ) (g : DcelPoint) → i < l.at → slice_get l.given i ≡ Some g → ¬ IsFar g;
  untold : l.row ≡ l.fn.row;
}

abbrev pub decreases-loop-at : goal.decreases-loop-at
decreases-loop-at l = length l.given - l.at
