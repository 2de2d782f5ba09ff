use Rattle.dcel_plane.proofs.laws.segments.empty_channels_are_edges.Goals as goal
use Rattle.dcel_plane.proofs.segments.Peaks.{empty_joins}

pub returns : goal.returns
returns g c = λ at m v w mesh triangles differ channel.
    let edge = empty_joins m mesh triangles at v w differ channel in
    (edge.edge, edge.live, edge.from, edge.to)
