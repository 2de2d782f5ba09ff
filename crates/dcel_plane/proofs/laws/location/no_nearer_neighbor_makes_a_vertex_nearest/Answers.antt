use Rattle.dcel_plane.proofs.location.Nearest.{nearest, nearest_on_line}
use Rattle.dcel_plane.proofs.laws.location.no_nearer_neighbor_makes_a_vertex_nearest.Goals as goal

pub returns-clause-triangles : goal.returns-clause-triangles
returns-clause-triangles g c = λ at m q v mesh known below near. nearest m mesh at q known v below near

pub returns-clause-line : goal.returns-clause-line
returns-clause-line g c = λ at m q h k mesh straight live live_k near. nearest_on_line m mesh at q straight h k live live_k near
