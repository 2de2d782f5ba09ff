use Rattle.dcel_plane.proofs.laws.location.places_found_are_exact.Goals as goal
use Rattle.dcel_plane.proofs.location.Ways.{found_in, not_both}
use Rattle.dcel_plane.proofs.location.Exact.{in_one_word, none_inside, none_on, on_none}
use Rattle.dcel_plane.proofs.location.OneEdge.{one_edge_only}

pub returns-clause-found : goal.returns-clause-found
returns-clause-found g c = λ at m p h mesh triangles plane live inner first second third. found_in m mesh triangles at plane p h live inner first second third

pub returns-clause-apart : goal.returns-clause-apart
returns-clause-apart g c = λ at s p f lies edge. not_both at s p f lies edge

pub returns-clause-inside : goal.returns-clause-inside
returns-clause-inside g c = λ at m p h k mesh triangles plane convex hull live inner lies live_k. none_inside m mesh triangles at plane p convex hull h k live inner lies live_k

pub returns-clause-edge : goal.returns-clause-edge
returns-clause-edge g c = λ at m p h k mesh triangles plane convex hull live lies live_k. none_on m mesh triangles at plane p convex hull h k live lies live_k

pub returns-clause-one_face : goal.returns-clause-one_face
returns-clause-one_face g c = λ at m p h f x y z mesh triangles plane convex hull live inner lies inner_f is other. in_one_word m mesh triangles at plane p convex hull h f x y z live inner lies inner_f is other

pub returns-clause-no_edge : goal.returns-clause-no_edge
returns-clause-no_edge g c = λ at m p h k mesh triangles plane convex hull live inner lies live_k. on_none m mesh triangles at plane p convex hull h k live inner lies live_k

pub returns-clause-one_edge : goal.returns-clause-one_edge
returns-clause-one_edge g c = λ at m p i h k mesh triangles plane convex hull live_i inner live lies live_k lies_k. one_edge_only m mesh triangles at plane p convex hull i h k live_i inner live lies live_k lies_k
