use Rattle.dcel_plane.proofs.star.Inserted.{inserted_star}
use Rattle.dcel_plane.proofs.laws.star.insertions_keep_other_circles_empty.Goals as goal

pub returns : goal.returns
returns g c = λ at m v f halves edges faces mesh inner triangle lies plane star. inserted_star m mesh at plane v f star inner triangle lies halves edges faces
