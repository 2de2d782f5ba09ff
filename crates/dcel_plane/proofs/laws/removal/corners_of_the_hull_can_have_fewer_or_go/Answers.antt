use Rattle.dcel_plane.proofs.laws.removal.corners_of_the_hull_can_have_fewer_or_go.Goals as goal
use Rattle.dcel_plane.proofs.removal.Fans.{flippable_or_gone}

pub returns : goal.returns
returns c = λ v u k fan two. flippable_or_gone v u k fan two
