use Rattle.dcel_plane.proofs.laws.removal.corners_of_the_hull_have_a_strip.Goals as goal
use Rattle.dcel_plane.proofs.removal.Stripping.{corner_strip}

pub returns : goal.returns
returns g c = λ at m h i mesh triangles plane convex hull live outer live_i inner. corner_strip m mesh triangles at plane convex hull h live outer i live_i inner
