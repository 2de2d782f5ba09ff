use Rattle.dcel_plane.proofs.laws.removal.vertices_of_five_have_an_edge_to_flip.Goals as goal
use Rattle.dcel_plane.proofs.removal.Flippable.{five_turn}

pub returns : goal.returns
returns g c = λ at m h w mesh triangles plane convex hull live inner trip many. five_turn m mesh triangles at plane convex hull h live inner w trip many
