use Rattle.dcel_plane.proofs.laws.removal.vertices_of_a_line_can_go.Goals as goal
use Rattle.dcel_plane.proofs.removal.PathShortened.{degenerate_straight}

pub returns : goal.returns
returns g c = λ at after m v mesh can result same straight. degenerate_straight m mesh v can at after result same straight
