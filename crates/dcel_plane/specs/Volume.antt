-- What a flip makes less: the volume below a triangulation that is lifted onto the paraboloid x * x + y * y over the plane.
use Rattle.std.specs.Prelude.{ℕ, List, [], ◌∷◌, unsigned_abs}
use Rattle.std.specs.List.{sum_by}
use Rattle.dcel_predicates.specs.declared.point.Point.{Point}
use Rattle.dcel_predicates.specs.Determinants.{volume_of}
use Rattle.dcel_maps.specs.Shapes.{Shape, origin_of}

-- six times the volume below the triangle of a word of three, and 0 for other words
abbrev pub volume_under : (ℕ → Point) → Shape → List ℕ → ℕ
volume_under at s (x ∷ y ∷ z ∷ []) = unsigned_abs (volume_of (at (origin_of s x)) (at (origin_of s y)) (at (origin_of s z)))
volume_under at s _ = 0

-- below all triangles together
abbrev pub volume_below : (ℕ → Point) → Shape → ℕ
volume_below at s = sum_by (volume_under at s) s.words
