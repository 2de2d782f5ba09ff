-- A whole triangulation is a Delaunay triangulation of its vertices, or a line.
use Rattle.std.proofs.Common.{◌≡◌, ◌∙◌, inl, inr, ℕ, ◌<◌, [], length, ap, sym, subst, arith, ℤ, ◌≤ℤ◌}
use Rattle.std.proofs.lemmas.List.{get_or_past}
use Rattle.std.proofs.lemmas.Bool.{cases_lt}
use Rattle.dcel_maps.specs.Shapes.{IsMesh, Mesh, face_count, origin_of}
use Rattle.dcel_predicates.specs.declared.point.Point.{Point}
use Rattle.dcel_predicates.specs.Determinants.{squared_distance_of}
use Rattle.dcel_predicates.proofs.Signs.{ordered}
use Rattle.dcel_plane.specs.Plane.{point_at}
use Rattle.dcel_plane.specs.covering.Covering.{HasEmptyCircles}
use Rattle.dcel_plane.specs.covering.Delaunay.{IsDelaunayTriangulation}
use Rattle.dcel_plane.proofs.covering.Circles.{no_vertex_inside}
use Rattle.dcel_plane.proofs.covering.Numbered as laws
use Rattle.dcel_plane.proofs.covering.Starts.{inner_half}
use Rattle.dcel_plane.specs.location.Nearest.{HasNoNearerNeighbor, IsNearest}
use Rattle.dcel_plane.proofs.location.Nearest.{nearest, nearest_on_line}
use Rattle.dcel_planar.specs.Growing.{HasHull, IsTriangulation}
use Rattle.dcel_delaunay.specs.Triangulated.{CirclesAreEmpty, FacesAreApart, GoesRoundHull, HullIsCovered, PointsAreSingle}
use Rattle.dcel_planar.proofs.Counting.{joined_all}
use Rattle.dcel_delaunay.proofs.Outline.{all_inside, all_single, each_vertex, hull_of_face, two_vertices}
use Rattle.dcel_planar.proofs.Walking.{delaunay}

module _ {DE UE F : Type 0} (m : Mesh Point DE UE F) (mesh : IsMesh m) (whole : IsTriangulation m) where
  known : HasHull m → IsDelaunayTriangulation (point_at m) m.shape
  known has =
      let (h, live, inner) = inner_half m mesh whole.sound.closed has.inner in record {
        closed = whole.sound.closed;
        inner = has.inner;
        triangles = whole.sound.triangles;
        connected = λ v below. joined_all m mesh whole.sound.closed whole.sound.joined v (two_vertices m mesh h live);
        delaunay = delaunay m whole.sound;
        convex = has.convex;
        hull = has.hull;
      }

  -- no vertex with an edge lies inside a circle
  pub no_circle : HasEmptyCircles (point_at m) m.shape
  no_circle = elim whole.hull [
    | inl flat ↦ record {
      empty = λ f x y z k inner is.
          absurd (let none = ap length (sym (get_or_past m.shape.words f [] (omega (arith, flat.alone, inner))) ∙ is) in omega (arith, none));
    }
    | inr has ↦ no_vertex_inside m mesh whole.sound.triangles (point_at m) (delaunay m whole.sound) has.convex has.hull
  ]

  pub circles_empty : CirclesAreEmpty m
  circles_empty f a b c v corners below =
      laws.circles m mesh (point_at m) (known (hull_of_face m mesh whole.hull f a b c corners)) f a b c v corners below

  pub faces_apart : FacesAreApart m
  faces_apart f g a b c x y z corners others differ =
      laws.apart m mesh (point_at m) (known (hull_of_face m mesh whole.hull f a b c corners)) f g a b c x y z corners others differ

  pub hull_covered : 1 < face_count m.shape → HullIsCovered m
  hull_covered inner p lies = elim whole.hull [
    | inl flat ↦ absurd (omega (arith, inner, flat.alone))
    | inr has ↦ laws.covered m mesh (point_at m) (known has) p lies
  ]

  pub points_single : PointsAreSingle m
  points_single = all_single m mesh whole.hull whole.sound.closed whole.sound.joined

  pub hull_round : GoesRoundHull m
  hull_round = all_inside m mesh whole.hull whole.sound.closed whole.sound.joined

  -- a vertex without a nearer neighbor is nearest
  pub nearest_of_all : (q : Point) (v : ℕ) → v < m.shape.vertices → HasNoNearerNeighbor (point_at m) m.shape q v → IsNearest (point_at m) m.shape q v
  nearest_of_all q v below near = elim whole.hull [
    | inr has ↦ nearest m mesh (point_at m) q (known has) v below near
    | inl flat ↦ (λ w below_w. elim (cases_lt 1 m.shape.vertices) [
      | inl more ↦
          each_vertex m mesh whole.hull whole.sound.closed whole.sound.joined (λ i. HasNoNearerNeighbor (point_at m) m.shape q i → squared_distance_of (point_at m i) q ≤ℤ squared_distance_of (point_at m w) q) more
          (λ h live near_h. each_vertex m mesh whole.hull whole.sound.closed whole.sound.joined (λ j. squared_distance_of (point_at m (origin_of m.shape h)) q ≤ℤ squared_distance_of (point_at m j) q) more
          (λ k live_k. nearest_on_line m mesh (point_at m) q flat.straight h k live live_k near_h) w below_w) v below near
      | inr few ↦
          let one : v ≡ w = omega (arith, below, below_w, few) in
          subst (λ (i : ℕ). squared_distance_of (point_at m v) q ≤ℤ squared_distance_of (point_at m i) q) one (itself (squared_distance_of (point_at m v) q))
    ])
  ]
    where
      itself : (z : ℤ) → z ≤ℤ z
      itself z = omega (arith, ordered)
