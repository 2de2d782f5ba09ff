-- The elements of a mesh in which no removal is open, by number: all are live.
use Rattle.std.proofs.Common.{◌≡◌, ◌∙◌, ℕ, zero, suc, ◌-◌, ◌<◌, ◌≤◌, true, ◌∷◌, map, Option, None, Some, refl, ap, subst, arith, SomeIff}
use Rattle.std.proofs.lemmas.List.{ext_get_or, length-map}
use Rattle.std.proofs.lemmas.List.Elements.{All-tail, All-weaker}
use Rattle.std.proofs.lemmas.List.FromFn.{get_or-map-range_with_len}
use Rattle.std.specs.List.{All}
use Rattle.dcel_maps.specs.Kinds.{Faces, UndirectedEdges}
use Rattle.dcel_maps.specs.Numbers.{numbers_between}
use Rattle.dcel_maps.specs.Removals.{Closed}
use Rattle.dcel_maps.specs.Shapes.{IsMesh, Mesh, edge_is_live, face_count, face_is_live, face_of}
use Rattle.dcel_maps.specs.Walking.{in_mesh}
use Rattle.dcel_maps.proofs.Liveness.{closed-live}
use Rattle.dcel_maps.proofs.walks.Numbers.{length-numbers, numbers-below, numbers-first}
use Rattle.dcel_predicates.specs.declared.point.Point.{Point}
use Rattle.dcel_plane.specs.Plane.{origin_point, point_at}
use Rattle.dcel_plane.proofs.covering.Starts.{face_live}
use Rattle.spade_dcel.specs.Live.{live_ones}
use Rattle.dcel_delaunay.specs.Lists.{inner_faces, place_of}
use Rattle.dcel_delaunay.proofs.Gathered.{all_live}

module _ {V DE UE F : Type 0} (m : Mesh V DE UE F) where
  -- each inner face is live
  pub live_faces : IsMesh m → m.shape.removal ≡ Closed → live_ones Faces (in_mesh m (inner_faces m.shape)) ≡ in_mesh m (inner_faces m.shape)
  live_faces mesh closed =
      let n = face_count m.shape in
      let all : All (λ f. f < n) (0 ∷ inner_faces m.shape) = subst (All (λ f. f < n)) (numbers-first 0 n mesh.sized.outer) (numbers-below n) in
      all_live Faces m (inner_faces m.shape)
      (All-weaker (λ f. f < n) (λ f. face_is_live m.shape f ≡ true) (face_live m mesh closed) (inner_faces m.shape) (All-tail (λ f. f < n) 0 (inner_faces m.shape) all))

  -- each edge is live
  pub live_edges : m.shape.removal ≡ Closed → live_ones UndirectedEdges (in_mesh m (numbers_between 0 m.shape.edges)) ≡ in_mesh m (numbers_between 0 m.shape.edges)
  live_edges closed =
      all_live UndirectedEdges m (numbers_between 0 m.shape.edges)
      (All-weaker (λ u. u < m.shape.edges) (λ u. edge_is_live m.shape u ≡ true) (closed-live m.shape closed) (numbers_between 0 m.shape.edges) (numbers-below m.shape.edges))

-- the points of the vertices, in the order of their numbers
pub points_in_order : {DE UE F : Type 0} (m : Mesh Point DE UE F) → IsMesh m → map (point_at m) (numbers_between 0 m.shape.vertices) ≡ m.vertex_data
unfolding numbers_between
points_in_order m mesh =
    let n = m.shape.vertices in
    let many = mesh.sized.vertex_data in
    let long = length-map (numbers_between 0 n) (point_at m) ∙ length-numbers 0 n in
    ext_get_or origin_point (map (point_at m) (numbers_between 0 n)) m.vertex_data (omega (arith, long, many))
    (λ v below. get_or-map-range_with_len (point_at m) 0 (n - 0) v v origin_point (omega (arith, below, long)) (omega arith))

-- a face's number less one is its place, and the outer face has none
pub placed : (r : Option ℕ) (f : ℕ) → SomeIff r (1 ≤ f) (f - 1) → r ≡ place_of f
placed None zero none = refl
placed None (suc i) none = absurd (none (omega arith))
placed (Some k) zero some = absurd (let few = some.0 in omega (arith, few))
placed (Some k) (suc i) some = ap Some (let is = some.1 in omega (arith, is))

-- the face of a half edge, as it is read through a handle
pub face_read : {V DE UE F : Type 0} (k m : Mesh V DE UE F) (n h f : ℕ) → f ≡ face_of k.shape n → k ≡ m → n ≡ h → f ≡ face_of m.shape h
face_read {V} {DE} {UE} {F} k m n h f is mesh number = is ∙ ap (λ (x : Mesh V DE UE F). face_of x.shape n) mesh ∙ ap (face_of m.shape) number
