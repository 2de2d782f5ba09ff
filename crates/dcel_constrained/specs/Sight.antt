-- What is seen past the edges that aren't marked.
use Rattle.std.specs.Prelude.{ℕ, Bool, false, List, Option, Some, None, pos, ◌≤ℤ◌}
use Rattle.std.specs.List.{slice_get}
use Rattle.dcel_predicates.specs.declared.point.Point.{Point}
use Rattle.dcel_predicates.specs.Determinants.{incircle_of}
use Rattle.dcel_maps.specs.Shapes.{Mesh}
use Rattle.dcel_plane.specs.Plane.{point_at}
use Rattle.dcel_plane.specs.covering.Delaunay.{HasCornerVertices}
use Rattle.dcel_plane.specs.covering.Sight.{SeesOver}
use Rattle.dcel_regions.specs.Marked.{is_constraint}
use Rattle.dcel_regions.specs.declared.mark.Mark.{Mark}

-- whether there is a mark, and it is that of a constraint
abbrev pub is_marked_by : Option Mark → Bool
is_marked_by (Some mark) = is_constraint mark
is_marked_by None = false

module _ {DE F : Type 0} where
  -- whether the edge u is marked, and hides what is behind it
  abbrev pub hides : Mesh Point DE Mark F → ℕ → Bool
  hides m u = is_marked_by (slice_get m.undirected_data u)

  -- no vertex that is seen from an inner face, over edges that aren't marked, lies inside the face's circle: a constrained Delaunay triangulation
  -- (L. P. Chew, "Constrained Delaunay triangulations", 1989)
  abbrev pub CirclesInSightAreEmpty : Mesh Point DE Mark F → Type 0
  CirclesInSightAreEmpty m = (f a b c v : ℕ) (way : List ℕ) → HasCornerVertices m.shape f a b c → SeesOver (hides m) (point_at m) m.shape f v way
      → incircle_of (point_at m a) (point_at m b) (point_at m c) (point_at m v) ≤ℤ pos 0
