use Rattle.dcel_plane.proofs.laws.removal.other_numbers_keep_a_line.Goals as goal
use Rattle.dcel_plane.proofs.removal.Renumbering.{cleanup_straight, taken_out_straight}

pub returns-clause-cleanup : goal.returns-clause-cleanup
returns-clause-cleanup g c = λ at m mesh result straight. cleanup_straight m mesh at result straight

pub returns-clause-vertex : goal.returns-clause-vertex
returns-clause-vertex g c = λ at after m v mesh given result same straight. taken_out_straight m mesh at after v given result same straight
