-- The triangles of a whole mesh, by its vertices, are a Delaunay triangulation of its points.
use Rattle.std.proofs.Common.{◌≡◌, ◌+◌, ◌<◌, ℕ, suc, List, length, map, Some, slice_get, refl, sym, ◌∙◌, subst, arith}
use Rattle.std.proofs.lemmas.List.{length-map}
use Rattle.std.proofs.lemmas.Option.{same_Some, slice_get_within}
use Rattle.dcel_maps.specs.Conditions.{IsUnconnected}
use Rattle.dcel_maps.specs.Numbers.{numbers_between}
use Rattle.dcel_maps.specs.Removals.{Closed}
use Rattle.dcel_maps.specs.Shapes.{IsMesh, face_count}
use Rattle.dcel_maps.specs.Triangulations.{AllTriangles}
use Rattle.dcel_maps.proofs.walks.Numbers.{length-numbers}
use Rattle.dcel_plane.specs.Plane.{IsLocallyDelaunay, point_at}
use Rattle.dcel_delaunay.specs.Bulk.{StandAt}
use Rattle.dcel_delaunay.specs.Listing.{ListsFaces, NamesLeast}
use Rattle.dcel_delaunay.specs.Lists.{corners_of, inner_faces}
use Rattle.dcel_delaunay.specs.Triangles.{AreDelaunayTriangles}
use Rattle.dcel_delaunay.specs.Triangulated.{CirclesAreEmpty, FacesAreApart, GoesRoundHull, HullIsCovered, PointsAreSingle}
use Rattle.dcel_delaunay.specs.declared.triangles.triangle.Triangle.{Triangle}
use Rattle.dcel_delaunay.proofs.listing.Faces.{corners_below, corners_listed}
use Rattle.dcel_delaunay.proofs.listing.Known.{IsKnown, Points, triangulated}
use Rattle.mesh_page.proofs.Places.{number_at}

module _ (m : Points) (mesh : IsMesh m) where
  abbrev vertices : List ℕ
  vertices = numbers_between 0 m.shape.vertices

  count : length vertices ≡ m.shape.vertices
  count = let long = length-numbers 0 m.shape.vertices in omega (arith, long)

  -- a vertex is at its own place
  own_place : (i v : ℕ) → i < m.shape.vertices → slice_get vertices i ≡ Some v → i ≡ v
  own_place i v below is = same_Some i v (sym (number_at m.shape.vertices i below) ∙ is)

  stand : StandAt m m.vertex_data vertices
  stand = record {
    length_is = let many = mesh.sized.vertex_data in let long = count in omega (arith, many, long);
    each = λ i p v at is.
        let below : i < m.shape.vertices = let within = slice_get_within m.vertex_data i p at in let many = mesh.sized.vertex_data in omega (arith, within, many) in
        subst (λ (k : ℕ). slice_get m.vertex_data k ≡ Some p) (own_place i v below is) at;
  }

  least : NamesLeast vertices 0 vertices
  least i v from is below =
      let within : i < m.shape.vertices = let inside = slice_get_within vertices i v is in let long = count in omega (arith, inside, long) in
      let few : v < m.shape.vertices = let long = count in omega (arith, below, long) in
      let same = own_place i v within is in
      (v, number_at m.shape.vertices v few, omega (arith, same), number_at m.shape.vertices v few)

  abbrev triangles : List Triangle
  triangles = map (corners_of m) (inner_faces m.shape)

  listed : m.shape.removal ≡ Closed → AllTriangles m.shape → ListsFaces m.shape vertices triangles
  listed closed all i t at =
      let corners = corners_listed m mesh closed all triangles refl i t at in
      let below = corners_below m mesh (suc i) t.first t.second t.third corners in
      let n = m.shape.vertices in
      record {
        a = t.first;
        b = t.second;
        c = t.third;
        corners = corners;
        first = number_at n t.first below.0;
        second = number_at n t.second below.1;
        third = number_at n t.third below.2;
      }

  many : length triangles + 1 ≡ face_count m.shape
  many = let some = mesh.sized.outer in omega (arith, length-map (inner_faces m.shape) (corners_of m), length-numbers 1 (face_count m.shape), some)

  pub whole_listed : m.shape.removal ≡ Closed → AllTriangles m.shape → ((v : ℕ) → 1 < m.shape.vertices → ¬ IsUnconnected m.shape v)
      → IsLocallyDelaunay (point_at m) m.shape → CirclesAreEmpty m → FacesAreApart m → (1 < face_count m.shape → HullIsCovered m) → PointsAreSingle m → GoesRoundHull m
      → AreDelaunayTriangles m.vertex_data (map (corners_of m) (inner_faces m.shape))
  whole_listed closed all joined delaunay circles apart covers single hull =
      let known : IsKnown m m.vertex_data vertices vertices = record {
        mesh = mesh;
        closed = closed;
        joined = joined;
        delaunay = delaunay;
        circles = circles;
        apart = apart;
        covers = covers;
        single = single;
        hull = hull;
        stand = stand;
        from = λ v below. (v, (let has = mesh.sized.vertex_data in omega (arith, below, has)), refl);
        least = least;
        count = count;
      } in
      triangulated m m.vertex_data vertices vertices known triangles (listed closed all) many
