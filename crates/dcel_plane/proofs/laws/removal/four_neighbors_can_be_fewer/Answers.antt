use Rattle.dcel_plane.proofs.laws.removal.four_neighbors_can_be_fewer.Goals as goal
use Rattle.dcel_plane.proofs.removal.Wheels.{flippable_or_between, two_triangles}

pub returns-clause-either : goal.returns-clause-either
returns-clause-either c = λ v u wheel. flippable_or_between v u wheel

pub returns-clause-triangles : goal.returns-clause-triangles
returns-clause-triangles c = λ v u wheel. two_triangles v u wheel
