-- The two sides of an edge.
use Rattle.std.specs.Prelude.{◌≡◌, ◌⊎◌, ℕ}
use Rattle.dcel_fixed.specs.HalfEdges.{rev}
use Rattle.dcel_maps.specs.Shapes.{Shape, face_of}

-- the outer face lies on one side of the edge of h. Source: `is_part_of_convex_hull` of `spade`, by numbers alone
abbrev pub IsOnHull : Shape → ℕ → Type 0
IsOnHull s h = (face_of s h ≡ 0) ⊎ (face_of s (rev h) ≡ 0)
