use Rattle.dcel_plane.proofs.laws.hull.convex_hulls_turn_in_nowhere.Goals as goal
use Rattle.dcel_plane.proofs.hull.ClosingStep.{turns_nowhere}

pub returns : goal.returns
returns g c = λ at m e mesh convex live on. turns_nowhere m mesh at convex e live on
