use Rattle.dcel_plane.proofs.laws.edits.insertions_keep_the_plane.Goals as goal
use Rattle.dcel_plane.proofs.edits.Inserted.{inserted_plane}
use Rattle.dcel_plane.proofs.edits.Spokes.{sides_listed}

pub returns-clause-plane : goal.returns-clause-plane
returns-clause-plane g c = λ at m v f halves edges faces mesh triangle lies plane. inserted_plane m mesh v f triangle halves edges faces at lies plane

pub returns-clause-due : goal.returns-clause-due
returns-clause-due g c =
    λ at m v f halves edges faces due mesh triangle lies after lists. sides_listed m mesh v f triangle halves edges faces at after lies due lists
