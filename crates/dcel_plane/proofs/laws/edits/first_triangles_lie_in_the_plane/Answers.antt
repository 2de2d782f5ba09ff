use Rattle.dcel_plane.proofs.laws.edits.first_triangles_lie_in_the_plane.Goals as goal
use Rattle.dcel_plane.proofs.edits.Alone.{alone_in_plane}

pub returns : goal.returns
returns g c = λ at vertices halves edges faces left. alone_in_plane at vertices halves edges faces left
