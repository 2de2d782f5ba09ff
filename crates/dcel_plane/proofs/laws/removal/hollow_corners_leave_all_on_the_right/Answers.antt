use Rattle.dcel_plane.proofs.laws.removal.hollow_corners_leave_all_on_the_right.Goals as goal
use Rattle.dcel_plane.proofs.removal.Hollows.{right_of_all}

pub returns : goal.returns
returns c = λ v x u k fan hollow some after before beyond. right_of_all v u k fan.left hollow x after before some beyond
