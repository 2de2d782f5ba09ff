use Rattle.std.proofs.Common.{◌≡◌, ◌≤◌, count_by, take}
use Rattle.dcel_regions.specs.Marked.{is_constraint}
use Rattle.dcel_constrained.proofs.triangulation.ConstrainedTriangulation.num_constraints.Given as goal

abbrev pub invariant-loop-number : goal.invariant-loop-number
invariant-loop-number g l = record {
  counted : l.count ≡ count_by is_constraint (take l.number l.self.planar.dcel.undirected_data);
  few : l.count ≤ l.number;
}
