use Rattle.dcel_plane.proofs.laws.removal.other_numbers_keep_plane_and_hull.Goals as goal
use Rattle.dcel_plane.proofs.removal.Renumbering.{cleanup_keeps, cleanup_lists, taken_out_keeps, taken_out_lists}

pub returns-clause-cleanup : goal.returns-clause-cleanup
returns-clause-cleanup g c = λ at m mesh result. cleanup_keeps m mesh at result

pub returns-clause-vertex : goal.returns-clause-vertex
returns-clause-vertex g c = λ at after m v mesh given result same. taken_out_keeps m mesh at after v given result same

pub returns-clause-due : goal.returns-clause-due
returns-clause-due g c = λ at m due mesh result lists. cleanup_lists m mesh at result due lists

pub returns-clause-vertex_due : goal.returns-clause-vertex_due
returns-clause-vertex_due g c = λ at after m v due mesh given result same lists. taken_out_lists m mesh at after v given result same due lists
