use Rattle.dcel_plane.proofs.laws.covering.triangles_cover_the_hull.Goals as goal
use Rattle.dcel_plane.proofs.covering.Reaching.{covers_hull}

pub returns : goal.returns
returns g c = λ at m mesh triangles delaunay. covers_hull m mesh triangles at delaunay
