use Rattle.dcel_plane.proofs.covering.Rounded.{round_convex, round_hull}
use Rattle.dcel_plane.proofs.covering.Rounding.{goes_round}
use Rattle.dcel_plane.proofs.laws.covering.convex_hulls_are_told_edge_by_edge.Goals as goal

pub returns-clause-convex : goal.returns-clause-convex
returns-clause-convex g c = λ at m mesh triangles plane goes. round_convex m mesh triangles at plane goes

pub returns-clause-hull : goal.returns-clause-hull
returns-clause-hull g c = λ at m mesh triangles plane goes. round_hull m mesh triangles at plane goes

pub returns-clause-round : goal.returns-clause-round
returns-clause-round g c = λ at m mesh triangles plane h live inner convex hull. goes_round m mesh triangles h live inner at plane convex hull
