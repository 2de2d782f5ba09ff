use Rattle.std.proofs.Common.{◌≡◌, ◌≤◌, length, take}
use Rattle.dcel_delaunay.proofs.Telling.{ToldSoFar}
use Rattle.dcel_delaunay.specs.Bulk.{AddsVertices, IsAhead, StandSoFar}
use Rattle.dcel_delaunay.specs.Triangulated.{mesh_in}
use Rattle.dcel_planar.specs.Outcomes.{IsWholeMesh}
use Rattle.dcel_delaunay.proofs.triangulation.Triangulation.insert_all_with.Given as goal

abbrev pub invariant-loop-number : goal.invariant-loop-number
invariant-loop-number g l = record {
  whole : IsWholeMesh l.self.planar;
  adds : AddsVertices (mesh_in l.fn.self) (mesh_in l.self) l.points l.number-index;
  same : IsWholeMesh l.fn.self.planar → (mesh_in l.self).vertex_data ≡ (mesh_in l.fn.self).vertex_data → mesh_in l.self ≡ mesh_in l.fn.self;
  edges : (mesh_in l.fn.self).shape.edges ≤ (mesh_in l.self).shape.edges;
  within : l.number-index ≤ length l.number-items;
  stand : StandSoFar (mesh_in l.self) l.points (take l.number-index l.number-items) l.vertices.items;
  done : l.done ≡ l.number-index;
  before : l.ahead.first ≤ l.done;
  ahead : IsAhead l.points l.number-items l.ahead.first l.ahead.points.items;
  callable : goal.P-IsAlwaysCallable g l.progress;
  told : ToldSoFar (λ before done after. goal.P-step g before done tt after) l.fn.progress l.progress l.done (length l.number-items);
}
