use Rattle.dcel_plane.proofs.laws.edits.closed_triangles_keep_the_plane.Goals as goal
use Rattle.dcel_plane.proofs.edits.Outside.{closed_lists, closed_plane}

pub returns-clause-plane : goal.returns-clause-plane
returns-clause-plane g c = λ at m e halves edges faces mesh live left plane. closed_plane m mesh e live halves edges faces at left plane

pub returns-clause-due : goal.returns-clause-due
returns-clause-due g c = λ at m e halves edges faces due mesh live after lists. closed_lists m mesh e live halves edges faces at due after lists
