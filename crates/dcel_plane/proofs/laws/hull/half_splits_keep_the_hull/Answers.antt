use Rattle.dcel_plane.proofs.laws.hull.half_splits_keep_the_hull.Goals as goal
use Rattle.dcel_plane.proofs.hull.HullSplitting.{half_split_convex, half_split_hull}

pub returns-clause-convex : goal.returns-clause-convex
returns-clause-convex g c =
    λ at m e v halves edges faces mesh plane live triangle inner bare across on result convex hull.
    half_split_convex m mesh at plane convex hull e v live triangle inner bare across on halves edges faces result

pub returns-clause-hull : goal.returns-clause-hull
returns-clause-hull g c =
    λ at m e v halves edges faces mesh plane live triangle inner bare across on result convex hull.
    half_split_hull m mesh at plane convex hull e v live triangle inner bare across on halves edges faces result
