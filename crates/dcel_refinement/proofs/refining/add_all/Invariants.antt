use Rattle.std.proofs.Common.{◌≤◌}
use Rattle.dcel_maps.specs.Shapes.{IsMesh}
use Rattle.dcel_constrained.specs.Constrained.{marked_mesh}
use Rattle.dcel_constrained.specs.Splitting.{SplitsMarked}
use Rattle.dcel_planar.specs.Outcomes.{IsWholeMesh}
use Rattle.dcel_refinement.specs.Refined.{AddsAtMost}
use Rattle.dcel_refinement.proofs.refining.add_all.Given as goal

abbrev pub invariant-loop-vertex : goal.invariant-loop-vertex
invariant-loop-vertex g l = record {
  whole : IsWholeMesh l.triangulation.planar;
  mesh : IsMesh (marked_mesh l.triangulation);
  adds : AddsAtMost (marked_mesh l.fn.triangulation) (marked_mesh l.triangulation) l._vertex;
  splits : SplitsMarked (marked_mesh l.fn.triangulation) (marked_mesh l.triangulation);
  within : l._vertex ≤ l.parameters.max_additional_vertices;
}
