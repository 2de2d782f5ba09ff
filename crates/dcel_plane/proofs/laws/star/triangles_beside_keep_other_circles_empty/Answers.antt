use Rattle.dcel_plane.proofs.star.Outside.{beside_star, closed_at_end, closed_at_start}
use Rattle.dcel_plane.proofs.laws.star.triangles_beside_keep_other_circles_empty.Goals as goal

pub returns-clause-beside : goal.returns-clause-beside
returns-clause-beside g c = λ at m v e halves edges faces mesh live outer none star. beside_star m mesh at v e star live halves edges faces outer none

pub returns-clause-closed_at_end : goal.returns-clause-closed_at_end
returns-clause-closed_at_end g c = λ at m v e halves edges faces mesh live is none star. closed_at_end m mesh at v e star live halves edges faces is none

pub returns-clause-closed_at_start : goal.returns-clause-closed_at_start
returns-clause-closed_at_start g c = λ at m v e halves edges faces mesh live is none star. closed_at_start m mesh at v e star live halves edges faces is none
