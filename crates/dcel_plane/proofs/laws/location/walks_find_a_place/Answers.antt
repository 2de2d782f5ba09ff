use Rattle.dcel_plane.proofs.laws.location.walks_find_a_place.Goals as goal
use Rattle.dcel_plane.proofs.location.Found.{has_spot}

pub returns : goal.returns
returns g c = λ at m p h mesh triangles delaunay live inner. has_spot m mesh triangles at delaunay p h live inner
