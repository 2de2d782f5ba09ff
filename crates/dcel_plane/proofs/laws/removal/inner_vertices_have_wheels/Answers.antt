use Rattle.dcel_plane.proofs.laws.removal.inner_vertices_have_wheels.Goals as goal
use Rattle.dcel_plane.proofs.removal.Flippable.{round_wheel}

pub returns : goal.returns
returns g c = λ at m h w mesh triangles plane convex hull live inner trip. round_wheel m mesh triangles at plane convex hull h live inner w trip
