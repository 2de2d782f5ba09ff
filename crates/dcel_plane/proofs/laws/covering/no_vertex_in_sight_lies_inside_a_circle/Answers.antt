use Rattle.dcel_plane.proofs.laws.covering.no_vertex_in_sight_lies_inside_a_circle.Goals as goal
use Rattle.dcel_plane.proofs.covering.Sight.{not_in_circle}

pub returns : goal.returns
returns g c = λ hides at m mesh triangles plane delaunay f a b c v way. not_in_circle hides at m mesh triangles plane delaunay v f a b c way
