use Rattle.dcel_plane.proofs.laws.edits.triangles_beside_keep_the_plane.Goals as goal
use Rattle.dcel_plane.proofs.edits.Outside.{beside_lists, beside_plane}

pub returns-clause-plane : goal.returns-clause-plane
returns-clause-plane g c =
    λ at m e v halves edges faces mesh live outer left plane. beside_plane m mesh e live halves edges faces at v outer left plane

pub returns-clause-due : goal.returns-clause-due
returns-clause-due g c =
    λ at m e v halves edges faces due mesh live outer after lists. beside_lists m mesh e live halves edges faces at v outer due after lists
