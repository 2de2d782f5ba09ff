use Rattle.dcel_plane.proofs.laws.hull.first_triangles_have_a_hull.Goals as goal
use Rattle.dcel_plane.proofs.hull.FirstTriangle.{alone_convex, alone_hull, alone_triangulates}

pub returns-clause-convex : goal.returns-clause-convex
returns-clause-convex g c = λ at vertices halves edges faces left. alone_convex at vertices halves edges faces left

pub returns-clause-hull : goal.returns-clause-hull
returns-clause-hull g c = λ at vertices halves edges faces left. alone_hull at vertices halves edges faces left

pub returns-clause-triangulation : goal.returns-clause-triangulation
returns-clause-triangulation g c = λ at vertices halves edges faces turn. alone_triangulates at vertices halves edges faces turn
