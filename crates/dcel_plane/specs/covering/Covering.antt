-- Triangulations as a whole: which vertices lie in a triangle, in its circle, and left of the hull. In what follows `at` is where each vertex
-- stands, and "vertex" is one with an edge, the start of a live half edge. `orient2d_of a b c` is positive where c lies on the left of the line
-- from a to b. Inner faces go round counterclockwise, so the outer face goes round the hull clockwise, and has it on its right.
use Rattle.std.specs.Prelude.{◌≡◌, ◌≢◌, ℕ, ◌<◌, [], ◌∷◌, ℤ, pos, ◌+ℤ◌, ◌-ℤ◌, ◌*ℤ◌, ◌<ℤ◌, ◌≤ℤ◌}
use Rattle.dcel_predicates.specs.declared.point.Point.{Point}
use Rattle.dcel_predicates.specs.Determinants.{orient2d_of, incircle_of}
use Rattle.dcel_maps.specs.Shapes.{IsLive, Shape, end_of, face_of, origin_of}
use Rattle.dcel_maps.specs.Words.{word_of}
use Rattle.dcel_plane.specs.covering.Places.{AreDisjoint, IsIn, Place, orient_at}

-- v lies in the triangle, which goes round counterclockwise, or on its border
abbrev pub Covers : Point → Point → Point → Point → Type 0
Covers a b c v = (pos 0 ≤ℤ orient2d_of a b v) × (pos 0 ≤ℤ orient2d_of b c v) × (pos 0 ≤ℤ orient2d_of c a v)

-- no vertex lies in an inner triangle but its corners
pub record IsApart (at : ℕ → Point) (s : Shape) : Type 0 where
  pub apart : (f x y z k : ℕ) → 0 < f → word_of s.words f ≡ x ∷ y ∷ z ∷ [] → IsLive s k
      → origin_of s k ≢ origin_of s x → origin_of s k ≢ origin_of s y → origin_of s k ≢ origin_of s z
      → ¬ Covers (at (origin_of s x)) (at (origin_of s y)) (at (origin_of s z)) (at (origin_of s k))

-- the dot product of the vectors from p to a and to b: of a point p on the line through a and b, it is positive outside of the segment,
-- 0 at its ends, and negative between them
abbrev pub dot : Point → Point → Point → ℤ
dot a b p = ((a.x -ℤ p.x) *ℤ (b.x -ℤ p.x)) +ℤ ((a.y -ℤ p.y) *ℤ (b.y -ℤ p.y))

-- p lies neither on the left of the line from a to b nor on it between a and b
abbrev pub Supports : Point → Point → Point → Type 0
Supports a b p = (orient2d_of a b p ≤ℤ pos 0) × (orient2d_of a b p ≡ pos 0 → pos 0 ≤ℤ dot a b p)

-- each half edge of the outer face supports all vertices: its line bounds the convex hull
pub record IsConvex (at : ℕ → Point) (s : Shape) : Type 0 where
  pub supports : (h k : ℕ) → IsLive s h → face_of s h ≡ 0 → IsLive s k → Supports (at (origin_of s h)) (at (end_of s h)) (at (origin_of s k))

-- Delaunay's condition on all vertices (B. Delaunay, "Sur la sphère vide", 1934): none lies inside the circle of an inner triangle
pub record HasEmptyCircles (at : ℕ → Point) (s : Shape) : Type 0 where
  pub empty : (f x y z k : ℕ) → 0 < f → word_of s.words f ≡ x ∷ y ∷ z ∷ [] → IsLive s k
      → ¬ (pos 0 <ℤ incircle_of (at (origin_of s x)) (at (origin_of s y)) (at (origin_of s z)) (at (origin_of s k)))

-- vertices that stand at one point are one
abbrev pub HasDistinctPoints : (ℕ → Point) → Shape → Type 0
HasDistinctPoints at s = (h k : ℕ) → IsLive s h → IsLive s k → (at (origin_of s h)).x ≡ (at (origin_of s k)).x → (at (origin_of s h)).y ≡ (at (origin_of s k)).y
    → origin_of s h ≡ origin_of s k

-- different vertices stand at different points, and the outer face passes each vertex once
pub record IsHull (at : ℕ → Point) (s : Shape) : Type 0 where
  pub distinct : HasDistinctPoints at s
  pub once : (h k : ℕ) → IsLive s h → IsLive s k → face_of s h ≡ 0 → face_of s k ≡ 0 → origin_of s h ≡ origin_of s k → h ≡ k

-- no place lies inside two inner triangles
pub record HasDisjointTriangles (at : ℕ → Point) (s : Shape) : Type 0 where
  pub disjoint : (f g x y z x' y' z' : ℕ) → 0 < f → 0 < g → f ≢ g → word_of s.words f ≡ x ∷ y ∷ z ∷ [] → word_of s.words g ≡ x' ∷ y' ∷ z' ∷ []
      → AreDisjoint (at (origin_of s x)) (at (origin_of s y)) (at (origin_of s z)) (at (origin_of s x')) (at (origin_of s y')) (at (origin_of s z'))

-- a place that no half edge of the outer face has on its left lies in an inner triangle, or on its border, if there is an inner triangle: it
-- can't be that it lies in none
pub record CoversHull (at : ℕ → Point) (s : Shape) : Type 0 where
  pub covered : (p : Place) (h : ℕ) → IsLive s h → 0 < face_of s h
      → ((k : ℕ) → IsLive s k → face_of s k ≡ 0 → orient_at (at (origin_of s k)) (at (end_of s k)) p ≤ℤ pos 0)
      → ¬ ((f x y z : ℕ) → 0 < f → word_of s.words f ≡ x ∷ y ∷ z ∷ [] → ¬ IsIn (at (origin_of s x)) (at (origin_of s y)) (at (origin_of s z)) p)
