use Rattle.std.proofs.Common.{◌≤◌, length, take}
use Rattle.dcel_delaunay.specs.Triangulated.{IsNearestIn, mesh_in}
use Rattle.dcel_delaunay.specs.Bulk.{AnswersSoFar}
use Rattle.dcel_delaunay.proofs.triangulation.Triangulation.nearest_all.Given as goal

abbrev pub invariant-loop-number : goal.invariant-loop-number
invariant-loop-number g l = record {
  within : l.number-index ≤ length l.number-items;
  answers : AnswersSoFar (IsNearestIn (mesh_in l.self)) l.points (take l.number-index l.number-items) l.vertices.items;
}
