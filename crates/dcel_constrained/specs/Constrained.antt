-- What contracts see of a constrained triangulation.
use Rattle.dcel_predicates.specs.declared.point.Point.{Point}
use Rattle.dcel_maps.specs.Shapes.{Mesh}
use Rattle.dcel_regions.specs.declared.mark.Mark.{Mark}
use Rattle.dcel_constrained.specs.declared.triangulation.ConstrainedTriangulation.{ConstrainedTriangulation}

module _ {A : Type 0} where
  -- its mesh
  abbrev pub marked_mesh : ConstrainedTriangulation A → Mesh Point (Unit {0}) Mark (Unit {0})
  marked_mesh t = t.planar.dcel
