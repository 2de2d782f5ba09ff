-- Meshes whose vertices stand in the plane, and Delaunay's condition on their edges.
use Rattle.std.specs.Prelude.{◌≡◌, ◌≢◌, ℕ, ◌+◌, ◌*◌, ◌<◌, true, List, [], ◌∷◌, slice_index_or, pos, ◌<ℤ◌}
use Rattle.std.proofs.Common.{arith}
use Rattle.dcel_predicates.specs.declared.point.Point.{Point}
use Rattle.dcel_predicates.specs.Determinants.{orient2d_of, incircle_of}
use Rattle.dcel_maps.specs.Conditions.{IsTriangle}
use Rattle.dcel_maps.specs.Shapes.{IsLive, Mesh, Shape, edge_is_live, end_of, face_of, origin_of, prev_of}
use Rattle.dcel_maps.specs.Words.{count_of, word_of}

-- three points go round counterclockwise
abbrev pub TurnsLeft : Point → Point → Point → Type 0
TurnsLeft a b c = pos 0 <ℤ orient2d_of a b c

-- In what follows `at` is where each vertex stands.

-- p lies on the left of the half edge h
abbrev pub IsLeftOf : (ℕ → Point) → Shape → Point → ℕ → Type 0
IsLeftOf at s p h = TurnsLeft (at (origin_of s h)) (at (end_of s h)) p

-- the corners of each inner triangle go round counterclockwise
pub record TrianglesTurnLeft (at : ℕ → Point) (s : Shape) : Type 0 where
  pub left : (f x y z : ℕ) → 0 < f → word_of s.words f ≡ x ∷ y ∷ z ∷ []
      → TurnsLeft (at (origin_of s x)) (at (origin_of s y)) (at (origin_of s z))

-- the edge u lies between two inner triangles
pub record IsInner (s : Shape) (u : ℕ) : Type 0 where
  pub live : edge_is_live s u ≡ true
  pub triangle : IsTriangle s (face_of s (2 * u))
  pub facing : IsTriangle s (face_of s (2 * u + 1))
  pub inner : 0 < face_of s (2 * u)
  pub inner_facing : 0 < face_of s (2 * u + 1)

-- the corner opposite the edge u on one side lies inside the circle of the triangle on the other side: it is the same from both sides
abbrev pub IsCircled : (ℕ → Point) → Shape → ℕ → Type 0
IsCircled at s u =
    pos 0 <ℤ incircle_of (at (origin_of s (2 * u))) (at (origin_of s (2 * u + 1))) (at (origin_of s (prev_of s (2 * u)))) (at (origin_of s (prev_of s (2 * u + 1))))

-- Delaunay's condition on edges (B. Delaunay, "Sur la sphère vide", 1934): no triangle's circle has the corner of a triangle beside it inside
pub record IsLocallyDelaunay (at : ℕ → Point) (s : Shape) : Type 0 where
  pub plane : TrianglesTurnLeft at s
  pub empty : (u : ℕ) → IsInner s u → ¬ IsCircled at s u

-- each edge that breaks the condition is in the list
abbrev pub ListsCircled : (ℕ → Point) → Shape → List ℕ → Type 0
ListsCircled at s list = (u : ℕ) → IsInner s u → IsCircled at s u → 0 < count_of u list

-- p lies on the left of each half edge of the face f
abbrev pub LiesInFace : (ℕ → Point) → Shape → ℕ → Point → Type 0
LiesInFace at s f p = (h : ℕ) → IsLive s h → face_of s h ≡ f → IsLeftOf at s p h

-- p lies on the left of each half edge of the face of h but h
abbrev pub LiesAcross : (ℕ → Point) → Shape → ℕ → Point → Type 0
LiesAcross at s h p = (k : ℕ) → IsLive s k → face_of s k ≡ face_of s h → k ≢ h → IsLeftOf at s p k

-- the point (0, 0)
abbrev pub origin_point : Point
origin_point = record { x = pos 0; y = pos 0; x_in_range = omega arith; y_in_range = omega arith }

-- where the vertices of a mesh of points stand
abbrev pub point_at : {DE UE F : Type 0} → Mesh Point DE UE F → ℕ → Point
point_at m v = slice_index_or m.vertex_data v origin_point
