use Rattle.dcel_plane.proofs.laws.removal.flat_corners_can_be_cut_off.Goals as goal
use Rattle.dcel_plane.proofs.removal.FlatFlips.{flip_plane_but}
use Rattle.dcel_plane.proofs.removal.Flattened.{flattened}
use Rattle.dcel_plane.proofs.removal.HullCorners.{corner_turn_at}
use Rattle.dcel_plane.proofs.removal.Strips.{cut_plane_but, flat_corner_convex, flat_corner_hull}

pub returns-clause-turn : goal.returns-clause-turn
returns-clause-turn g c = λ at m h w mesh triangles plane convex hull live outer trip lies. corner_turn_at m mesh triangles at plane convex hull h live outer w trip lies

pub returns-clause-flattened : goal.returns-clause-flattened
returns-clause-flattened g c = λ at m h mesh triangles plane convex hull live outer lies. flattened m mesh triangles at plane convex hull h live outer lies

pub returns-clause-flip : goal.returns-clause-flip
returns-clause-flip g c = λ at m u v mesh turn plane. flip_plane_but m mesh at u v turn plane

pub returns-clause-plane : goal.returns-clause-plane
returns-clause-plane g c = λ at m list mesh closed strip plane. cut_plane_but m mesh closed list strip at plane

pub returns-clause-convex : goal.returns-clause-convex
returns-clause-convex g c = λ at m list mesh closed strip triangles convex hull two flat. flat_corner_convex m mesh closed list strip at triangles convex hull two flat

pub returns-clause-hull : goal.returns-clause-hull
returns-clause-hull g c = λ at m list mesh closed strip triangles convex hull two flat. flat_corner_hull m mesh closed list strip at triangles convex hull two flat
