use Rattle.dcel_plane.proofs.laws.removal.five_neighbors_can_be_fewer.Goals as goal
use Rattle.dcel_plane.proofs.removal.Wheels.{flippable}

pub returns : goal.returns
returns c = λ v u k wheel five. flippable v u k wheel five
