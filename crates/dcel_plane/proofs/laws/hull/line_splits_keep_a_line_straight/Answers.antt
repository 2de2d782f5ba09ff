use Rattle.dcel_plane.proofs.laws.hull.line_splits_keep_a_line_straight.Goals as goal
use Rattle.dcel_plane.proofs.hull.LineExtended.{split_straight}

pub returns : goal.returns
returns g c = λ at m e v halves edges mesh live on inside result straight. split_straight m mesh at straight e v live on inside halves edges result
