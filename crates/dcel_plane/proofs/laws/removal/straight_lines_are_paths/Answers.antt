use Rattle.dcel_plane.proofs.laws.removal.straight_lines_are_paths.Goals as goal
use Rattle.dcel_plane.proofs.removal.LinePaths.{line_few}

pub returns : goal.returns
returns g c = λ at m v h mesh straight out. line_few m mesh at straight v h out
