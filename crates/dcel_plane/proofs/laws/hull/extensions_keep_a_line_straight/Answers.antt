use Rattle.dcel_plane.proofs.laws.hull.extensions_keep_a_line_straight.Goals as goal
use Rattle.dcel_plane.proofs.hull.LineExtended.{extended_straight}

pub returns : goal.returns
returns g c = λ at m end tip h halves edges mesh is_end straight live ends_h on past result. extended_straight m mesh at straight end tip h is_end live ends_h on past halves edges result
