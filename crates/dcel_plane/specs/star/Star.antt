-- What holds of a Delaunay triangulation while a vertex that was just put in has its edges flipped: all that can be wrong is at the star of the
-- vertex, which is made of the triangles at it. In what follows `at` is where each vertex stands, and v is that vertex.
use Rattle.std.specs.Prelude.{◌≡◌, ◌≢◌, ◌⊎◌, ℕ, ◌+◌, ◌*◌, ◌/◌, ◌<◌, List, [], ◌∷◌, pos, ◌<ℤ◌}
use Rattle.dcel_predicates.specs.declared.point.Point.{Point}
use Rattle.dcel_predicates.specs.Determinants.{incircle_of}
use Rattle.dcel_maps.specs.Shapes.{IsLive, Shape, next_of, origin_of, prev_of}
use Rattle.dcel_maps.specs.Words.{word_of}
use Rattle.dcel_plane.specs.Plane.{IsLeftOf, TurnsLeft}

-- the side from a to b of the triangle (a, b, c) touches v, or no vertex but v lies on the left of the side and inside the circle of the triangle
abbrev pub IsEmptyAt : (ℕ → Point) → Shape → ℕ → ℕ → ℕ → ℕ → Type 0
IsEmptyAt at s v a b c = a ≢ v → b ≢ v → (k : ℕ) → IsLive s k → origin_of s k ≢ v
    → TurnsLeft (at a) (at b) (at (origin_of s k)) → ¬ (pos 0 <ℤ incircle_of (at a) (at b) (at c) (at (origin_of s k)))

-- so it is at each side of the triangle of three half edges
abbrev pub IsEmptyRound : (ℕ → Point) → Shape → ℕ → ℕ → ℕ → ℕ → Type 0
IsEmptyRound at s v x y z =
    IsEmptyAt at s v (origin_of s x) (origin_of s y) (origin_of s z)
    × IsEmptyAt at s v (origin_of s y) (origin_of s z) (origin_of s x)
    × IsEmptyAt at s v (origin_of s z) (origin_of s x) (origin_of s y)

-- so it is at each inner triangle: those away from v have no other vertex inside their circles, and those at v none on v's side of the edge
-- across from it
pub record HasEmptyCirclesBut (at : ℕ → Point) (s : Shape) (v : ℕ) : Type 0 where
  pub empty : (f x y z : ℕ) → 0 < f → word_of s.words f ≡ x ∷ y ∷ z ∷ [] → IsEmptyRound at s v x y z

-- v is an end of the edge u
abbrev pub IsSpoke : Shape → ℕ → ℕ → Type 0
IsSpoke s v u = (origin_of s (2 * u) ≡ v) ⊎ (origin_of s (2 * u + 1) ≡ v)

-- v is the corner across from the edge u, on one side or the other: the link of v is made of these
abbrev pub IsLinkEdge : Shape → ℕ → ℕ → Type 0
IsLinkEdge s v u = (origin_of s (prev_of s (2 * u)) ≡ v) ⊎ (origin_of s (prev_of s (2 * u + 1)) ≡ v)

-- the edges after and before a half edge in its face
abbrev pub edges_beside : Shape → ℕ → List ℕ
edges_beside s h = next_of s h / 2 ∷ prev_of s h / 2 ∷ []

-- no vertex but v lies on the left of the half edge h
abbrev pub HasNoneOnLeft : (ℕ → Point) → Shape → ℕ → ℕ → Type 0
HasNoneOnLeft at s v h = (k : ℕ) → IsLive s k → origin_of s k ≢ v → ¬ IsLeftOf at s (at (origin_of s k)) h
