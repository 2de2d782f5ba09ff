use Rattle.dcel_plane.proofs.laws.removal.neighbors_of_three_turn_left.Goals as goal
use Rattle.dcel_plane.proofs.removal.Flippable.{three_turn}

pub returns : goal.returns
returns g c = λ at m h w mesh triangles plane convex hull live inner trip many. three_turn m mesh triangles at plane convex hull h live inner w trip many
