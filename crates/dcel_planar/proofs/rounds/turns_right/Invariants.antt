use Rattle.std.proofs.Common.{ℕ, ◌<◌}
use Rattle.dcel_plane.specs.Plane.{point_at}
use Rattle.dcel_planar.specs.Ways.{TurnsRight}
use Rattle.dcel_planar.proofs.rounds.turns_right.Given as goal

-- none of the half edges so far turns left
abbrev pub invariant-loop-number : goal.invariant-loop-number
invariant-loop-number g l = (h : ℕ) → h < l.number → TurnsRight (point_at l.dcel) l.dcel.shape h
