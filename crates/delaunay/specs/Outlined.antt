-- What is inside an outline.
use Rattle.std.specs.Prelude.{◌≡◌, ℕ, List, Option, Some}
use Rattle.dcel_predicates.specs.declared.point.Point.{Point}
use Rattle.dcel_maps.specs.Shapes.{Mesh}
use Rattle.dcel_regions.specs.declared.mark.Mark.{Mark}
use Rattle.dcel_constrained.specs.declared.load.Segment.{Segment}
use Rattle.dcel_output.specs.Outlining.{ListsInside}
use Rattle.delaunay.specs.Texts.{AreBeside}
use Rattle.delaunay.specs.declared.view.Inside.{Inside}

-- it is known of each triangle whether it is, and of each edge whether it is beside one that is
abbrev pub IsInsideOf : {DE F : Type 0} → Mesh Point DE Mark F → List (Option ℕ) → List Segment → Option Inside → Type 0
IsInsideOf m vertices sides inside = (i : Inside) × (inside ≡ Some i) × ListsInside m vertices sides i.triangles.items × AreBeside m i
