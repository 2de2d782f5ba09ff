use Rattle.std.proofs.Common.{◌≤◌, All, Contains, length}
use Rattle.dcel_delaunay.specs.Bulk.{StandAt}
use Rattle.dcel_planar.specs.Outcomes.{IsWholeMesh}
use Rattle.dcel_constrained.specs.Constrained.{marked_mesh}
use Rattle.dcel_constrained.specs.Loading.{AreLaid, ArePartsOf}
use Rattle.dcel_constrained.proofs.triangulation.ConstrainedTriangulation.bulk_load.Given as goal

abbrev pub invariant-loop-number : goal.invariant-loop-number
invariant-loop-number g l = record {
  whole : IsWholeMesh l.triangulation.planar;
  stand : StandAt (marked_mesh l.triangulation) l.points l.vertices.items;
  points : All (Contains l.points) (marked_mesh l.triangulation).vertex_data;
  laid : AreLaid (marked_mesh l.triangulation) l.vertices.items l.segments l.number;
  parts : ArePartsOf (marked_mesh l.triangulation) l.vertices.items l.segments l.number;
  within : l.number ≤ length l.segments;
}
