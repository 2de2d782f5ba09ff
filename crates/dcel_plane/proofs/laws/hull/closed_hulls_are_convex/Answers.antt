use Rattle.dcel_plane.proofs.laws.hull.closed_hulls_are_convex.Goals as goal
use Rattle.dcel_plane.proofs.hull.Closed.{closed_convex}

pub returns : goal.returns
returns g c = λ at m t mesh closing thick hull closed.
    closed_convex m mesh at hull t closing thick closed closing.stands.0 closing.stands.1 closing.stands.2 closing.stands.3
