use Rattle.dcel_plane.proofs.laws.hull.flips_keep_the_hull.Goals as goal
use Rattle.dcel_plane.proofs.hull.Keeping.{flip_keeps_convex, flip_keeps_hull}

pub returns-clause-convex : goal.returns-clause-convex
returns-clause-convex g c = λ at m u mesh can inner facing. flip_keeps_convex m mesh u can at inner facing

pub returns-clause-hull : goal.returns-clause-hull
returns-clause-hull g c = λ at m u mesh can inner facing. flip_keeps_hull m mesh u can at inner facing
