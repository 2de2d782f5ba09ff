use Rattle.std.proofs.Common.{◌≡◌, ◌<◌}
use Rattle.dcel_maps.specs.Shapes.{IsLive, face_of}
use Rattle.spade_dcel.specs.Handles.{mesh_behind, number_of}
use Rattle.dcel_planar.specs.Places.{LiesAt}
use Rattle.dcel_planar.proofs.Walking.{Comes}
use Rattle.dcel_planar.proofs.location.walk.walk.Given as goal

abbrev pub invariant-loop-step : goal.invariant-loop-step
invariant-loop-step g l = record {
  mesh : mesh_behind l.edge ≡ l.dcel;
  live : IsLive l.dcel.shape (number_of l.edge);
  inner : 0 < face_of l.dcel.shape (number_of l.edge);
  own : LiesAt l.dcel l.point (number_of l.edge) l.own;
  comes : Comes l.dcel l.point (face_of l.dcel.shape (number_of l.initial.edge)) (face_of l.dcel.shape (number_of l.edge)) l.step;
}
