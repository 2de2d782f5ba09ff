use Rattle.dcel_plane.proofs.laws.segments.channels_list_each_crossing.Goals as goal
use Rattle.dcel_plane.proofs.segments.Listing.{stands_in}

pub returns : goal.returns
returns g c = λ at m v w h list mesh triangles plane convex hull clear channel some crosses. stands_in m mesh triangles at plane convex hull v w clear list channel some h crosses
