use Rattle.dcel_plane.proofs.laws.edits.appended_vertices_move_nothing.Goals as goal
use Rattle.dcel_plane.proofs.edits.Moved.{appended_lists, appended_plane, appended_stands, others_stand}

pub returns-clause-stands : goal.returns-clause-stands
returns-clause-stands g c = λ m p mesh. appended_stands m mesh p

pub returns-clause-others : goal.returns-clause-others
returns-clause-others g c = λ m p v mesh below. others_stand m mesh p v below

pub returns-clause-plane : goal.returns-clause-plane
returns-clause-plane g c = λ m p mesh plane. appended_plane m mesh p plane

pub returns-clause-due : goal.returns-clause-due
returns-clause-due g c = λ m p due mesh lists. appended_lists m mesh p due lists
