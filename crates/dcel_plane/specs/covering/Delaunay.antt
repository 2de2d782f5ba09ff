-- A Delaunay triangulation of the vertices: conditions that are tested vertex by vertex, edge by edge and face by face, and the words in which
-- the laws say what follows for all of them together. In what follows `at` is where each vertex stands.
use Rattle.std.specs.Prelude.{◌≡◌, ℕ, ◌<◌, [], ◌∷◌, map, pos, ◌≤ℤ◌}
use Rattle.dcel_predicates.specs.declared.point.Point.{Point}
use Rattle.dcel_maps.specs.Conditions.{IsUnconnected}
use Rattle.dcel_maps.specs.Removals.{Closed}
use Rattle.dcel_maps.specs.Shapes.{IsLive, Shape, end_of, face_count, face_of, origin_of}
use Rattle.dcel_maps.specs.Triangulations.{AllTriangles}
use Rattle.dcel_maps.specs.Words.{TurnsTo, word_of}
use Rattle.dcel_plane.specs.Plane.{IsLocallyDelaunay}
use Rattle.dcel_plane.specs.covering.Covering.{IsConvex, IsHull}
use Rattle.dcel_plane.specs.covering.Places.{IsIn, Place, orient_at}

-- there is an inner face, each one is a triangle, each vertex has an edge, no edge breaks Delaunay's condition, and the outer face is a convex
-- hull that passes each vertex once
pub record IsDelaunayTriangulation (at : ℕ → Point) (s : Shape) : Type 0 where
  pub closed : s.removal ≡ Closed
  pub inner : 1 < face_count s
  pub triangles : AllTriangles s
  pub connected : (v : ℕ) → v < s.vertices → ¬ IsUnconnected s v
  pub delaunay : IsLocallyDelaunay at s
  pub convex : IsConvex at s
  pub hull : IsHull at s

-- the half edges of the inner face f start at a, b and c, one after the other
pub record HasCornerVertices (s : Shape) (f a b c : ℕ) : Type 0 where
  pub inner : 0 < f
  pub starts : TurnsTo (map (origin_of s) (word_of s.words f)) (a ∷ b ∷ c ∷ [])

-- no half edge of the outer face, which goes round the hull clockwise, has the place on its left
abbrev pub LiesInHull : (ℕ → Point) → Shape → Place → Type 0
LiesInHull at s p = (h : ℕ) → IsLive s h → face_of s h ≡ 0 → orient_at (at (origin_of s h)) (at (end_of s h)) p ≤ℤ pos 0

-- the place lies in an inner triangle, or on its border
pub record LiesInSomeTriangle (at : ℕ → Point) (s : Shape) (p : Place) : Type 0 where
  pub face : ℕ
  pub a : ℕ
  pub b : ℕ
  pub c : ℕ
  pub corners : HasCornerVertices s face a b c
  pub lies : IsIn (at a) (at b) (at c) p
