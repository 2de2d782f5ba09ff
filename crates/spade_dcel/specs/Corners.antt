-- Corners of the outer face.
use Rattle.std.specs.Prelude.{ℕ, List}
use Rattle.dcel_maps.specs.Shapes.{Shape, origin_of}
use Rattle.dcel_maps.specs.edits.Strip.{strip_half}

-- the vertex that a strip is around
abbrev pub corner_of : Shape → List ℕ → ℕ
corner_of s list = origin_of s (strip_half s list)
