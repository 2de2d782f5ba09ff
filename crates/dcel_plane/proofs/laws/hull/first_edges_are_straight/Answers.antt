use Rattle.dcel_plane.proofs.laws.hull.first_edges_are_straight.Goals as goal
use Rattle.dcel_plane.proofs.hull.FirstEdge.{first_straight}

pub returns : goal.returns
returns g c = λ at m a b halves edges differ. first_straight m at a b halves edges differ
