use Rattle.dcel_plane.proofs.laws.removal.corners_of_the_hull_have_an_edge_to_flip_or_can_go.Goals as goal
use Rattle.dcel_plane.proofs.removal.HullCorners.{corner_fan, corner_turn}

pub returns-clause-fan : goal.returns-clause-fan
returns-clause-fan g c = λ at m h w mesh triangles plane convex hull live outer trip. corner_fan m mesh triangles at plane convex hull h live outer w trip

pub returns-clause-turn : goal.returns-clause-turn
returns-clause-turn g c = λ at m h w mesh triangles plane convex hull live outer trip many. corner_turn m mesh triangles at plane convex hull h live outer w trip many
