use Rattle.dcel_plane.proofs.segments.Wholly.{plane_covers}
use Rattle.dcel_plane.proofs.laws.segments.triangles_in_the_plane_cover_the_hull.Goals as goal

pub returns : goal.returns
returns g c = λ at m mesh triangles plane. plane_covers at m mesh triangles plane
