use Rattle.dcel_plane.proofs.laws.hull.a_worked_mesh.Goals as goal
use Rattle.std.proofs.Common.{pos, ◌<ℤ◌, refl, ◌≡◌, arith}
use Rattle.dcel_predicates.specs.Determinants.{orient2d_of}
use Rattle.dcel_predicates.proofs.Signs.{ordered}
use Rattle.dcel_plane.specs.hull.Worked.{corner}
use Rattle.dcel_plane.proofs.hull.FirstTriangle.{alone_convex, alone_hull, alone_triangulates}

left : pos 0 <ℤ orient2d_of (corner 1) (corner 0) (corner 2)
left =
    let is : orient2d_of (corner 1) (corner 0) (corner 2) ≡ pos 16 = refl in
    omega (arith, ordered, is)

pub returns-clause-convex : goal.returns-clause-convex
returns-clause-convex g c = λ vertices halves edges faces. alone_convex corner vertices halves edges faces left

pub returns-clause-hull : goal.returns-clause-hull
returns-clause-hull g c = λ vertices halves edges faces. alone_hull corner vertices halves edges faces left

pub returns-clause-triangulation : goal.returns-clause-triangulation
returns-clause-triangulation g c = λ vertices halves edges faces. alone_triangulates corner vertices halves edges faces left
