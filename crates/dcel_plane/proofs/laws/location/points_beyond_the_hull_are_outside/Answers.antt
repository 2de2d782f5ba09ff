use Rattle.dcel_plane.proofs.laws.location.points_beyond_the_hull_are_outside.Goals as goal
use Rattle.dcel_plane.proofs.location.Exact.{in_none_word, none_beyond, outside_none, stepped_out}

pub returns-clause-step : goal.returns-clause-step
returns-clause-step g c = λ at m p h mesh triangles plane has. stepped_out m mesh triangles at plane p h has

pub returns-clause-vertex : goal.returns-clause-vertex
returns-clause-vertex g c = λ at m p e k mesh triangles plane convex live outer sees live_k. none_beyond m mesh triangles at plane p convex e k live outer sees live_k

pub returns-clause-triangle : goal.returns-clause-triangle
returns-clause-triangle g c = λ at m p e f x y z mesh triangles plane convex live outer sees inner is. in_none_word m mesh triangles at plane p convex e f x y z live outer sees inner is

pub returns-clause-edge : goal.returns-clause-edge
returns-clause-edge g c = λ at m p e h k mesh triangles plane convex hull live outer sees live_h inner live_k. outside_none m mesh triangles at plane p convex hull e h k live outer sees live_h inner live_k
