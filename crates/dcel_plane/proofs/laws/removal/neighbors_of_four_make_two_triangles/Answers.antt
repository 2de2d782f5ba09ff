use Rattle.dcel_plane.proofs.laws.removal.neighbors_of_four_make_two_triangles.Goals as goal
use Rattle.dcel_plane.proofs.removal.Flippable.{two_turn}

pub returns : goal.returns
returns g c = λ at m h w mesh triangles plane convex hull live inner trip many. two_turn m mesh triangles at plane convex hull h live inner w trip many
