use Rattle.dcel_plane.proofs.laws.hull.closings_from_a_line_end_in_a_hull.Goals as goal
use Rattle.dcel_plane.proofs.hull.ThinEnd.{thin_convex, thin_hull}

pub returns-clause-convex : goal.returns-clause-convex
returns-clause-convex g c = λ at m t mesh triangles plane closing thin closed.
    thin_convex m mesh triangles at plane t closing thin closed closing.stands.0 closing.stands.1 closing.stands.2 closing.stands.3

pub returns-clause-hull : goal.returns-clause-hull
returns-clause-hull g c = λ at m t mesh triangles plane closing thin closed.
    thin_hull m mesh triangles at plane t closing thin closed closing.stands.0 closing.stands.1 closing.stands.2 closing.stands.3
