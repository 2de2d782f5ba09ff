use Rattle.dcel_plane.proofs.laws.edits.lines_are_delaunay.Goals as goal
use Rattle.dcel_plane.proofs.edits.Alone.{outer_alone_delaunay}

pub returns : goal.returns
returns g c = λ at m mesh one. outer_alone_delaunay at m mesh one
