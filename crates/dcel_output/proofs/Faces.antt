-- The triangles of a whole triangulation, by the numbers of points that its vertices have.
use Rattle.std.proofs.Common.{◌≡◌, ℕ, zero, suc, ◌+◌, ◌<◌, List, [], ◌∷◌, length, map, Some, slice_get, refl, sym, subst, arith}
use Rattle.std.proofs.lemmas.List.{length-map}
use Rattle.std.proofs.lemmas.Option.{none-some, same_Some, slice_get-get_or}
use Rattle.dcel_predicates.specs.declared.point.Point.{Point}
use Rattle.dcel_maps.specs.Removals.{Closed}
use Rattle.dcel_maps.specs.Shapes.{IsMesh, face_count}
use Rattle.dcel_maps.specs.Triangulations.{AllTriangles}
use Rattle.dcel_maps.proofs.walks.Numbers.{length-numbers}
use Rattle.dcel_delaunay.specs.Listing.{HasNumbers, ListsFaces}
use Rattle.dcel_delaunay.specs.Lists.{corners_of, inner_faces}
use Rattle.dcel_delaunay.specs.Triangles.{AreDelaunayTriangles}
use Rattle.dcel_delaunay.specs.declared.triangles.triangle.Triangle.{Triangle}
use Rattle.dcel_delaunay.proofs.listing.Faces.{corners_below, corners_listed}
use Rattle.dcel_delaunay.proofs.listing.Known.{IsKnown, Points, triangulated}
use Rattle.dcel_output.specs.Numbering.{NumbersVertices, number_at, triangle_numbered, triangles_numbered}

-- an item of a list that a function made of another one
pub mapped_at : {A B : Type 0} (f : A → B) (xs : List A) (i : ℕ) (y : B) → slice_get (map f xs) i ≡ Some y → (x : A) × (slice_get xs i ≡ Some x) × (y ≡ f x)
mapped_at f [] i y at = absurd (none-some y at)
mapped_at f (x ∷ xs) zero y at = (x, refl, sym (same_Some (f x) y at))
mapped_at f (x ∷ xs) (suc i) y at = mapped_at f xs i y at

module _ (m : Points) (mesh : IsMesh m) (closed : m.shape.removal ≡ Closed) (triangles : AllTriangles m.shape) (numbers : List ℕ) (count : length numbers ≡ m.shape.vertices) where
  numbered_at : (v : ℕ) → v < m.shape.vertices → slice_get numbers v ≡ Some (number_at numbers v)
  numbered_at v below = slice_get-get_or numbers v v (omega (arith, below, count))

  faces_listed : ListsFaces m.shape numbers (triangles_numbered m numbers)
  faces_listed i t at =
      let list = map (corners_of m) (inner_faces m.shape) in
      let (u, at_u, is) = mapped_at (triangle_numbered numbers) list i t at in
      let corners = corners_listed m mesh closed triangles list refl i u at_u in
      let below = corners_below m mesh (suc i) u.first u.second u.third corners in
      subst (λ (x : Triangle). HasNumbers m.shape numbers (suc i) x) (sym is) record {
        a = u.first;
        b = u.second;
        c = u.third;
        corners = corners;
        first = numbered_at u.first below.0;
        second = numbered_at u.second below.1;
        third = numbered_at u.third below.2;
      }

  all_listed : length (triangles_numbered m numbers) + 1 ≡ face_count m.shape
  all_listed =
      let list = map (corners_of m) (inner_faces m.shape) in
      let long = length-map (inner_faces m.shape) (corners_of m) in
      let same = length-map list (triangle_numbered numbers) in
      let many = length-numbers 1 (face_count m.shape) in
      let some = mesh.sized.outer in
      omega (arith, long, same, many, some)

  pub numbered_delaunay : (points : List Point) (vertices : List ℕ) → IsKnown m points vertices numbers → AreDelaunayTriangles points (triangles_numbered m numbers)
  numbered_delaunay points vertices known = triangulated m points vertices numbers known (triangles_numbered m numbers) faces_listed all_listed
