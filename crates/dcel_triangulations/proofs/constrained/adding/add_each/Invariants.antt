use Rattle.std.proofs.Common.{◌≤◌, ◌-◌, length}
use Rattle.dcel_constrained.specs.Constrained.{marked_mesh}
use Rattle.dcel_maps.specs.Shapes.{IsMesh}
use Rattle.dcel_planar.specs.Outcomes.{IsWholeMesh}
use Rattle.dcel_triangulations.specs.constrained.Adding.{LaysSegments}
use Rattle.dcel_triangulations.proofs.constrained.adding.add_each.Given as goal

-- the first segments are constraints
abbrev pub invariant-loop-at : goal.invariant-loop-at
invariant-loop-at l = record {
  up_to : l.at ≤ length l.segments;
  lays : LaysSegments l.segments l.at l.at (marked_mesh l.fn.kept) (marked_mesh l.kept);
  mesh : IsMesh (marked_mesh l.kept);
  whole : IsWholeMesh l.kept.planar;
}

abbrev pub decreases-loop-at : goal.decreases-loop-at
decreases-loop-at l = length l.segments - l.at
