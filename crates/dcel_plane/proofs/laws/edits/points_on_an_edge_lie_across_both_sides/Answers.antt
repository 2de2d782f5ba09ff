use Rattle.dcel_plane.proofs.laws.edits.points_on_an_edge_lie_across_both_sides.Goals as goal
use Rattle.dcel_plane.proofs.edits.Across.{across_both}

pub returns : goal.returns
returns g c =
    λ at m e p mesh live triangle facing inner inner_facing plane on across.
    across_both m mesh at p e live triangle facing inner inner_facing plane on across
