use Rattle.std.proofs.Common.{◌≡◌, ℕ, Some, length, slice_get}
use Rattle.dcel_predicates.specs.declared.point.Point.{Point}
use Rattle.delaunay.specs.Placed.{IsPointAt}
use Rattle.delaunay.proofs.reading.Coordinates.points.Given as goal

abbrev pub invariant-loop-number : goal.invariant-loop-number
invariant-loop-number l = record {
  count : length l.points.items ≡ l.number;
  each : (i : ℕ) (p : Point) → slice_get l.points.items i ≡ Some p → IsPointAt l.unit l.self.all.items i p;
}
