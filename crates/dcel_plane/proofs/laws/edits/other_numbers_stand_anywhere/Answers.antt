use Rattle.dcel_plane.proofs.laws.edits.other_numbers_stand_anywhere.Goals as goal
use Rattle.dcel_plane.proofs.edits.Moved.{moved_lists, moved_plane}

pub returns-clause-plane : goal.returns-clause-plane
returns-clause-plane g c = λ at to m mesh same plane. moved_plane at to m.shape mesh.sound same plane

pub returns-clause-due : goal.returns-clause-due
returns-clause-due g c = λ at to m due mesh same lists. moved_lists at to m.shape mesh.sound same due lists
