-- Parts of a segment: none crosses a marked edge where the whole doesn't, and what leads along a part is a part of the whole.
use Rattle.std.proofs.Common.{ℕ}
use Rattle.dcel_predicates.specs.declared.point.Point.{Point}
use Rattle.dcel_maps.specs.Shapes.{Mesh}
use Rattle.dcel_plane.specs.Plane.{point_at}
use Rattle.dcel_regions.specs.declared.mark.Mark.{Mark}
use Rattle.dcel_constrained.specs.Constraints.{IsFreeWay}
use Rattle.dcel_constrained.specs.Meeting.{LiesBetweenEnds}
use Rattle.dcel_constrained.proofs.Between.{crosses_later, crosses_sooner}

module _ {DE F : Type 0} (m : Mesh Point DE Mark F) (v w y : ℕ) where
  pub free_later : LiesBetweenEnds (point_at m) v w y → IsFreeWay m v w → IsFreeWay m y w
  free_later lies free h c = free h (crosses_later (point_at m) v w y lies m.shape h c)

  pub free_sooner : LiesBetweenEnds (point_at m) v w y → IsFreeWay m v w → IsFreeWay m v y
  free_sooner lies free h c = free h (crosses_sooner (point_at m) v w y lies m.shape h c)
