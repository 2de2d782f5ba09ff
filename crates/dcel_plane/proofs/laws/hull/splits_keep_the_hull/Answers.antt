use Rattle.dcel_plane.proofs.laws.hull.splits_keep_the_hull.Goals as goal
use Rattle.dcel_plane.proofs.hull.Splitting.{split_convex, split_hull}

pub returns-clause-convex : goal.returns-clause-convex
returns-clause-convex g c =
    λ at m e v halves edges faces mesh triangles plane live inner facing across across_t result convex hull.
    split_convex m mesh triangles at plane convex hull e v live inner facing across across_t halves edges faces result

pub returns-clause-hull : goal.returns-clause-hull
returns-clause-hull g c =
    λ at m e v halves edges faces mesh triangles plane live inner facing across across_t result convex hull.
    split_hull m mesh triangles at plane convex hull e v live inner facing across across_t halves edges faces result
