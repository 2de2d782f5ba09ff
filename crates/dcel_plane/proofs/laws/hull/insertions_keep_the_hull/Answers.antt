use Rattle.dcel_plane.proofs.laws.hull.insertions_keep_the_hull.Goals as goal
use Rattle.dcel_plane.proofs.hull.Inserting.{inserted_convex, inserted_hull}

pub returns-clause-convex : goal.returns-clause-convex
returns-clause-convex g c =
    λ at m v f halves edges faces mesh triangles plane inner triangle lies result convex hull.
    inserted_convex m mesh triangles at plane convex hull v f inner triangle lies halves edges faces result

pub returns-clause-hull : goal.returns-clause-hull
returns-clause-hull g c =
    λ at m v f halves edges faces mesh triangles plane inner triangle lies result convex hull.
    inserted_hull m mesh triangles at plane convex hull v f inner triangle lies halves edges faces result
