-- What is known where points were inserted into no triangulation.
use Rattle.std.proofs.Common.{◌≡◌, ℕ, ◌+◌, ◌<◌, List, [], ◌++◌, length, sym, ap, ◌∙◌, subst, Result, Ok, Err, IfOk, slice_index_or, arith}
use Rattle.std.proofs.lemmas.Option.{same_Some, slice_get-get_or}
use Rattle.dcel_predicates.specs.declared.point.Point.{Point}
use Rattle.dcel_maps.specs.Conditions.{IsUnconnected}
use Rattle.dcel_maps.specs.Removals.{Closed}
use Rattle.dcel_maps.specs.Shapes.{IsMesh, face_count}
use Rattle.dcel_plane.specs.Plane.{IsLocallyDelaunay, origin_point, point_at}
use Rattle.dcel_delaunay.specs.Bulk.{AddsVertices, StandAt}
use Rattle.dcel_delaunay.specs.Triangulated.{CirclesAreEmpty, FacesAreApart, GoesRoundHull, HullIsCovered, PointsAreSingle}
use Rattle.dcel_delaunay.specs.Listing.{ListsFaces, NamesLeast}
use Rattle.dcel_delaunay.specs.Triangles.{AreDelaunayTriangles, point_numbered}
use Rattle.dcel_delaunay.specs.declared.triangles.triangle.Triangle.{Triangle}
use Rattle.dcel_delaunay.proofs.listing.Known.{IsKnown, Points, triangulated}

-- each vertex has one of the points
stands_there : (empty m : Points) (points : List Point) → IsMesh m → empty.vertex_data ≡ [] → AddsVertices empty m points (length points)
    → (v : ℕ) → v < m.shape.vertices → (i : ℕ) × (i < length points) × (point_numbered points i ≡ point_at m v)
stands_there empty m points mesh none adds v below =
    let all : m.vertex_data ≡ adds.added = adds.points ∙ ap (λ (before : List Point). before ++ adds.added) none in
    let within : v < length adds.added = let e = mesh.sized.vertex_data in let f = ap length all in omega (arith, below, e, f) in
    let (i, in_points, is) = adds.from v origin_point within in
    let x = slice_index_or adds.added v origin_point in
    let same : point_numbered points i ≡ slice_index_or points i x = same_Some (point_numbered points i) (slice_index_or points i x) (sym (slice_get-get_or points i origin_point in_points) ∙ slice_get-get_or points i x in_points) in
    (i, in_points, same ∙ is ∙ ap (λ (there : List Point). slice_index_or there v origin_point) (sym all))

-- the mesh is seen through what lends it
pub known_of : (empty m seen : Points) (points : List Point) (vertices numbers : List ℕ) → seen ≡ m → IsMesh seen → m.shape.removal ≡ Closed
    → ((v : ℕ) → 1 < m.shape.vertices → ¬ IsUnconnected m.shape v) → IsLocallyDelaunay (point_at m) m.shape → CirclesAreEmpty m → FacesAreApart m
    → (1 < face_count m.shape → HullIsCovered m) → PointsAreSingle m → GoesRoundHull m → empty.vertex_data ≡ [] → AddsVertices empty m points (length points)
    → StandAt m points vertices → NamesLeast vertices 0 numbers → length numbers ≡ m.shape.vertices → IsKnown m points vertices numbers
known_of empty m seen points vertices numbers same sound closed joined delaunay circles apart covers single hull none adds stand least count =
    let mesh : IsMesh m = subst (λ (k : Points). IsMesh k) same sound in
    record {
      mesh = mesh;
      closed = closed;
      joined = joined;
      delaunay = delaunay;
      circles = circles;
      apart = apart;
      covers = covers;
      single = single;
      hull = hull;
      stand = stand;
      from = stands_there empty m points mesh none adds;
      least = least;
      count = count;
    }

pub both_ok : {X E : Type 0} (r : Result X E) (P Q R : X → Type 0) → ((x : X) → P x → Q x → R x) → IfOk r P → IfOk r Q → IfOk r R
both_ok (Ok x) P Q R follows p q = follows x p q
both_ok (Err e) P Q R follows p q = tt

-- so are the numbers
pub triangulated_seen : (m seen : Points) (points : List Point) (vertices numbers read : List ℕ) → seen ≡ m → read ≡ numbers → IsKnown m points vertices numbers
    → (list : List Triangle) → length list + 1 ≡ face_count seen.shape → ListsFaces seen.shape read list → AreDelaunayTriangles points list
triangulated_seen m seen points vertices numbers read same also known list count faces =
    triangulated m points vertices numbers known list
    (subst (λ (ns : List ℕ). ListsFaces m.shape ns list) also (subst (λ (k : Points). ListsFaces k.shape read list) same faces))
    (subst (λ (k : Points). length list + 1 ≡ face_count k.shape) same count)
