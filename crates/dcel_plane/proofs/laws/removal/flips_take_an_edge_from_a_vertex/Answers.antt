use Rattle.dcel_plane.proofs.laws.removal.flips_take_an_edge_from_a_vertex.Goals as goal
use Rattle.std.proofs.Common.{arith}
use Rattle.dcel_plane.specs.Plane.{origin_point}
use Rattle.dcel_plane.proofs.removal.Fewer.{flip_keeps_inner, flip_takes_one}

pub returns-clause-fewer : goal.returns-clause-fewer
returns-clause-fewer g c = λ m e w after mesh can first second. (let e' = flip_takes_one m mesh (λ i. origin_point) e can w after first second in omega (arith, e'))

pub returns-clause-inner : goal.returns-clause-inner
returns-clause-inner g c = λ m e v mesh can one two inner. flip_keeps_inner m mesh (λ i. origin_point) e can one two v inner
