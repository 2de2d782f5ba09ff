-- Edges that are locally Delaunay unless they are marked: no vertex in sight lies inside a circle.
use Rattle.std.proofs.Common.{◌≡◌, true, false, Option, Some, subst, arith}
use Rattle.dcel_predicates.specs.declared.point.Point.{Point}
use Rattle.std.specs.List.{slice_get}
use Rattle.dcel_maps.specs.Shapes.{IsMesh, Mesh}
use Rattle.dcel_maps.specs.Triangulations.{AllTriangles}
use Rattle.dcel_plane.specs.Plane.{TrianglesTurnLeft, point_at}
use Rattle.dcel_plane.proofs.covering.Sight.{not_in_circle}
use Rattle.dcel_regions.specs.declared.mark.Mark.{Mark}
use Rattle.dcel_regions.specs.declared.mark.Mark.TheVariants.{Constraint}
use Rattle.dcel_constrained.specs.Sight.{CirclesInSightAreEmpty, hides, is_marked_by}
use Rattle.dcel_constrained.specs.Soundness.{IsConstrainedDelaunay}

hides_nothing : (mark : Option Mark) → is_marked_by mark ≡ false → ¬ (mark ≡ Some Constraint)
hides_nothing mark clear is = let h : true ≡ false = subst (λ (k : Option Mark). is_marked_by k ≡ false) is clear in grind arith

pub in_sight : {DE F : Type 0} (m : Mesh Point DE Mark F) → IsMesh m → AllTriangles m.shape → TrianglesTurnLeft (point_at m) m.shape → IsConstrainedDelaunay m
    → CirclesInSightAreEmpty m
in_sight m mesh triangles plane delaunay f a b c v way corners sees =
    not_in_circle (hides m) (point_at m) m mesh triangles plane
    (λ u inner clear. delaunay u inner (hides_nothing (slice_get m.undirected_data u) clear)) v f a b c way corners sees
