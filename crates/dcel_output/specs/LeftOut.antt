-- Meshes that leave a point out, which the definition of a constrained triangulation excludes.
use Rattle.std.specs.Prelude.{replicate}
use Rattle.dcel_maps.specs.Shapes.{Mesh}
use Rattle.dcel_maps.specs.edits.Create.{outer_alone, vertex_appended}
use Rattle.dcel_maps.specs.edits.Triangle.{triangle_alone}
use Rattle.dcel_predicates.specs.declared.point.Point.{Point}
use Rattle.dcel_regions.specs.declared.mark.Mark.{Mark}
use Rattle.dcel_regions.specs.declared.mark.Mark.TheVariants.{Free}

abbrev pub MarkedMesh : Type 0
MarkedMesh = Mesh Point (Unit {0}) Mark (Unit {0})

-- two vertices, and no edge
abbrev pub without_edges : Point → Point → MarkedMesh
without_edges p q = vertex_appended (vertex_appended (outer_alone tt) p) q

-- a triangle, and a fourth vertex without an edge, inside of it or anywhere else
abbrev pub with_one_left_out : (a b c d : Point) → MarkedMesh
with_one_left_out a b c d = vertex_appended (triangle_alone (a, b, c) (replicate 6 tt) (replicate 3 Free) (replicate 2 tt)) d
