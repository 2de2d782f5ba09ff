use Rattle.std.proofs.Common.{◌≡◌, ◌+◌, length}
use Rattle.dcel_delaunay.specs.Bulk.{IsAhead}
use Rattle.dcel_delaunay.proofs.insert.ahead.Ahead.fill.Given as goal

abbrev pub invariant-loop-place : goal.invariant-loop-place
invariant-loop-place g l = record {
  first : l.self.first ≡ l.fn.first;
  ahead : IsAhead l.points l.order l.fn.first l.self.points.items;
  place : l.fn.first + length l.self.points.items ≡ l.place;
}
