use Rattle.dcel_plane.proofs.laws.removal.filled_holes_stay_in_the_plane.Goals as goal
use Rattle.dcel_plane.proofs.removal.Deleting.{four_plane, hole_convex, hole_hull, hole_lists, hole_plane, three_plane}

pub returns-clause-ears : goal.returns-clause-ears
returns-clause-ears g c = λ at m v p q r rest border halves edges faces mesh closed l is lefts plane. hole_plane m mesh closed border v l halves edges faces at p q r rest is lefts plane

pub returns-clause-three : goal.returns-clause-three
returns-clause-three g c = λ at m v border halves edges faces mesh triangles plane convex hull closed l three. three_plane m mesh closed border v l halves edges faces at triangles plane convex hull three

pub returns-clause-four : goal.returns-clause-four
returns-clause-four g c = λ at m v border halves edges faces mesh triangles plane convex hull closed l four two. four_plane m mesh closed border v l halves edges faces at triangles plane convex hull four two

pub returns-clause-convex : goal.returns-clause-convex
returns-clause-convex g c = λ at m v border halves edges faces mesh closed l convex. hole_convex m mesh closed border v l halves edges faces at convex

pub returns-clause-hull : goal.returns-clause-hull
returns-clause-hull g c = λ at m v border halves edges faces mesh closed l hull. hole_hull m mesh closed border v l halves edges faces at hull

pub returns-clause-due : goal.returns-clause-due
returns-clause-due g c = λ at m v border halves edges faces due list mesh closed l new lists. hole_lists m mesh closed border v l halves edges faces at due list new lists
