use Rattle.std.proofs.Common.{◌≡◌, ◌≤◌, length, take}
use Rattle.dcel_maps.specs.Shapes.{IsMesh}
use Rattle.dcel_delaunay.specs.Bulk.{AddsVertices, StandSoFar}
use Rattle.dcel_planar.specs.Outcomes.{IsWholeMesh}
use Rattle.dcel_constrained.specs.Constrained.{marked_mesh}
use Rattle.dcel_constrained.specs.Splitting.{SplitsMarked}
use Rattle.dcel_constrained.proofs.triangulation.ConstrainedTriangulation.insert_all.Given as goal

abbrev pub invariant-loop-number : goal.invariant-loop-number
invariant-loop-number g l = record {
  whole : IsWholeMesh l.self.planar;
  mesh : IsMesh (marked_mesh l.self);
  adds : AddsVertices (marked_mesh l.fn.self) (marked_mesh l.self) l.points l.number-index;
  splits : SplitsMarked (marked_mesh l.fn.self) (marked_mesh l.self);
  edges : (marked_mesh l.fn.self).shape.edges ≤ (marked_mesh l.self).shape.edges;
  same : IsWholeMesh l.fn.self.planar → (marked_mesh l.self).vertex_data ≡ (marked_mesh l.fn.self).vertex_data → marked_mesh l.self ≡ marked_mesh l.fn.self;
  within : l.number-index ≤ length l.number-items;
  stand : StandSoFar (marked_mesh l.self) l.points (take l.number-index l.number-items) l.vertices.items;
}
