use Rattle.std.proofs.Common.{◌≤◌, length, take}
use Rattle.dcel_planar.specs.Places.{IsPlace}
use Rattle.dcel_delaunay.specs.Bulk.{AnswersSoFar}
use Rattle.dcel_constrained.specs.Constrained.{marked_mesh}
use Rattle.dcel_constrained.proofs.triangulation.ConstrainedTriangulation.locate_all.Given as goal

abbrev pub invariant-loop-number : goal.invariant-loop-number
invariant-loop-number g l = record {
  within : l.number-index ≤ length l.number-items;
  answers : AnswersSoFar (IsPlace (marked_mesh l.self)) l.points (take l.number-index l.number-items) l.positions.items;
}
