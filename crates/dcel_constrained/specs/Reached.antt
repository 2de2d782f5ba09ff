-- How far a segment leads without crossing a marked edge.
use Rattle.std.specs.Prelude.{◌≡◌, ◌⊎◌, ℕ, Option, None, Some}
use Rattle.dcel_predicates.specs.declared.point.Point.{Point}
use Rattle.dcel_maps.specs.Shapes.{Mesh}
use Rattle.dcel_plane.specs.Plane.{point_at}
use Rattle.dcel_plane.specs.segments.Segments.{AreEnds}
use Rattle.dcel_regions.specs.declared.mark.Mark.{Mark}
use Rattle.dcel_constrained.specs.Constraints.{IsFreeWay}
use Rattle.dcel_constrained.specs.Meeting.{LiesBetweenEnds}

module _ {DE F : Type 0} where
  -- to the vertex y, its end or one between its ends
  pub record ReachesFreely (m : Mesh Point DE Mark F) (v w y : ℕ) : Type 0 where
    pub there : (y ≡ w) ⊎ LiesBetweenEnds (point_at m) v w y
    pub ends : AreEnds m.shape y w
    pub free : IsFreeWay m v y

  -- or to none
  abbrev pub IsReachedFreely : Mesh Point DE Mark F → ℕ → ℕ → Option ℕ → Type 0
  IsReachedFreely m v w None = ¬ IsFreeWay m v w
  IsReachedFreely m v w (Some y) = ReachesFreely m v w y
