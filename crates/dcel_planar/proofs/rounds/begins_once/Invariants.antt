use Rattle.dcel_plane.specs.covering.Round.{Begins}
use Rattle.dcel_plane.specs.Plane.{point_at}
use Rattle.dcel_planar.specs.Ways.{leads_to}
use Rattle.dcel_planar.proofs.Begun.{Seen}
use Rattle.dcel_planar.proofs.rounds.begins_once.Given as goal

-- at most one of the half edges so far begins to lead there
abbrev pub invariant-loop-number : goal.invariant-loop-number
invariant-loop-number g l = record { seen : Seen (Begins (leads_to l.way (point_at l.dcel) l.dcel.shape) l.dcel.shape) l.number l.begun }
