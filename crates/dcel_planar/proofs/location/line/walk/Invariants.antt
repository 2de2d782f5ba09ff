use Rattle.std.proofs.Common.{◌≡◌}
use Rattle.dcel_fixed.specs.HalfEdges.{rev}
use Rattle.dcel_maps.specs.Shapes.{IsLive}
use Rattle.dcel_plane.specs.Plane.{point_at}
use Rattle.dcel_plane.specs.location.Locating.{LiesBeyond}
use Rattle.spade_dcel.specs.Handles.{mesh_behind, number_of}
use Rattle.dcel_planar.specs.Places.{IsOnLine}
use Rattle.dcel_planar.proofs.Along.{Passed}
use Rattle.dcel_planar.proofs.location.line.walk.Given as goal

abbrev pub invariant-loop-step : goal.invariant-loop-step
invariant-loop-step g l = record {
  mesh : mesh_behind l.edge ≡ l.dcel;
  live : IsLive l.dcel.shape (number_of l.edge);
  on : IsOnLine l.dcel l.point (number_of l.edge);
  not_behind : ¬ LiesBeyond (point_at l.dcel) l.dcel.shape l.point (rev (number_of l.edge));
  passed : Passed l.dcel (number_of l.initial.edge) (number_of l.edge) l._step;
}
