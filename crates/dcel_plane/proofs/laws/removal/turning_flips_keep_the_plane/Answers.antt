use Rattle.dcel_plane.proofs.laws.removal.turning_flips_keep_the_plane.Goals as goal
use Rattle.dcel_plane.proofs.removal.Turnable.{turn_keeps_plane}

pub returns : goal.returns
returns g c = λ at m u mesh turn plane. turn_keeps_plane m mesh at u turn plane
