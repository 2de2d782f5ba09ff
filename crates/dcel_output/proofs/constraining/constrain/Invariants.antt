use Rattle.std.proofs.Common.{◌≡◌, ◌≤◌, length}
use Rattle.dcel_maps.specs.Shapes.{IsMesh}
use Rattle.dcel_planar.specs.Outcomes.{IsWholeMesh}
use Rattle.dcel_constrained.specs.Constrained.{marked_mesh}
use Rattle.dcel_delaunay.specs.Triangulated.{mesh_in}
use Rattle.dcel_output.specs.Constraining.{AreChains, LieOnSegments}
use Rattle.dcel_output.proofs.constraining.constrain.Given as goal

abbrev pub invariant-loop-number : goal.invariant-loop-number
invariant-loop-number g l = record {
  whole : IsWholeMesh l.constrained.planar;
  mesh : IsMesh (marked_mesh l.constrained);
  points : (marked_mesh l.constrained).vertex_data ≡ (mesh_in l.fn.triangulation).vertex_data;
  chains : AreChains (marked_mesh l.constrained) l.vertices l.segments l.number;
  only : LieOnSegments (marked_mesh l.constrained) l.vertices l.segments l.number;
  within : l.number ≤ length l.segments;
}
