use Rattle.dcel_plane.proofs.laws.removal.corners_without_an_edge_to_flip_can_go.Goals as goal
use Rattle.dcel_plane.proofs.removal.Stripping.{corner_hollow, corner_lies}

pub returns-clause-hollow : goal.returns-clause-hollow
returns-clause-hollow g c = λ at m h i mesh triangles plane convex hull live outer none live_i inner turn. corner_hollow m mesh triangles at plane convex hull h live outer none i live_i inner turn

pub returns-clause-between : goal.returns-clause-between
returns-clause-between g c = λ at m h i mesh triangles plane convex hull live outer none live_i inner flat. corner_lies m mesh triangles at plane convex hull h live outer none i live_i inner flat
