-- Points of which a mesh has no numbers left for another one: there are many.
use Rattle.std.proofs.Common.{◌≡◌, inl, inr, ℕ, ◌+◌, ◌*◌, ◌<◌, ◌≤◌, ◌^◌, true, List, [], ◌++◌, All, Contains, length, ap, sym, subst, ◌∙◌, arith}
use Rattle.std.proofs.lemmas.Bool.{cases_lt}
use Rattle.dcel_predicates.specs.declared.point.Point.{Point}
use Rattle.dcel_maps.specs.Conditions.{HasRoom}
use Rattle.dcel_maps.specs.Maps.{count, starts_edge}
use Rattle.dcel_maps.specs.Removals.{Closed, gives_up_face}
use Rattle.dcel_maps.specs.Shapes.{IsMesh, Mesh, edge_is_live, face_count, face_is_live, map_of}
use Rattle.dcel_maps.specs.Triangulations.{AllTriangles}
use Rattle.dcel_maps.specs.Words.{word_of}
use Rattle.dcel_maps.proofs.Counted.{words-length, words-total}
use Rattle.dcel_maps.proofs.Liveness.{closed-live, gives_up_face-closed, gives_up_face-outer, is_live-from}
use Rattle.dcel_maps.proofs.maps.Counts.{count_all}
use Rattle.dcel_maps.proofs.walks.Lengths.{count-le}
use Rattle.dcel_planar.specs.Outcomes.{IsWholeMesh}
use Rattle.dcel_planar.specs.declared.errors.InsertionError.{InsertionError}
use Rattle.dcel_planar.specs.declared.errors.InsertionError.TheVariants.{OutOfMemory, OutOfRange, TooManyPoints, Unfinished}
use Rattle.dcel_planar.specs.declared.planar.PlanarMesh.{PlanarMesh}
use Rattle.dcel_delaunay.specs.Bulk.{AddsVertices, FailsToInsertAll}
use Rattle.dcel_delaunay.specs.Triangulated.{PointsAreSingle}
use Rattle.dcel_delaunay.specs.Triangles.{AreTooMany, FailsToTriangulate}
use Rattle.dcel_delaunay.proofs.listing.Known.{Points}

-- Euler's formula, and each inner face has three half edges
room_left : (v used e f h : ℕ) → used + f ≡ e + 2 → 2 * e + 3 ≡ h + 3 * f → used ≤ v → 3 * v ≤ 2 ^ 31 → (v + 1 ≤ 2 ^ 32) × (e + 3 ≤ 2 ^ 31) × (f + 2 ≤ 2 ^ 32)
room_left v used e f h euler sides within few =
    (omega (arith, few), omega (arith, euler, sides, within, few), omega (arith, euler, sides, within, few))

has_room : {V DE UE F : Type 0} (m : Mesh V DE UE F) → IsMesh m → m.shape.removal ≡ Closed → AllTriangles m.shape → 3 * m.shape.vertices ≤ 2 ^ 31 → HasRoom m.shape 1 3 2
has_room m mesh closed triangles few =
    let s = m.shape in
    let outer : face_is_live s 0 ≡ true =
    is_live-from (gives_up_face s.removal) (face_count s) 0 mesh.sized.outer (gives_up_face-outer mesh.sized.within) in
    let words = words-total (face_is_live s) s.words mesh.sized.outer outer triangles mesh.sound.bare in
    let halves = words-length s mesh.sound in
    let edges = count_all (edge_is_live s) s.edges (λ k below. closed-live s closed k below) in
    let faces = count_all (face_is_live s) (face_count s) (λ k below.
    is_live-from (gives_up_face s.removal) (face_count s) k below (ap (λ r. gives_up_face r k) closed ∙ gives_up_face-closed k)) in
    elim (cases_lt 0 s.edges) [
      | inl some ↦
          let euler = mesh.sphere.euler 0 (closed-live s closed 0 some) in
          let left = room_left s.vertices (count (starts_edge (map_of s)) s.vertices) s.edges (face_count s) (length (word_of s.words 0))
          (omega (arith, euler, edges, faces)) (omega (arith, words, halves, edges, faces)) (count-le (starts_edge (map_of s)) s.vertices) few in
          record { for_vertices = left.0; for_edges = left.1; for_faces = left.2 }
      | inr none ↦ record {
        for_vertices = omega (arith, few);
        for_edges = omega (arith, none);
        for_faces = omega (arith, none, words, halves, edges, faces);
      }
    ]

many_vertices : {V DE UE F : Type 0} (m : Mesh V DE UE F) → IsMesh m → m.shape.removal ≡ Closed → AllTriangles m.shape → ¬ HasRoom m.shape 1 3 2 → 2 ^ 31 < 3 * m.shape.vertices
many_vertices m mesh closed triangles lacks = elim (cases_lt (2 ^ 31) (3 * m.shape.vertices)) [
  | inl more ↦ more
  | inr few ↦ absurd (lacks (has_room m mesh closed triangles few))
]

-- the vertices of such a mesh stand at different ones of the points
are_many : (empty m : Points) (points : List Point) (most : ℕ) → IsMesh m → m.shape.removal ≡ Closed → AllTriangles m.shape → PointsAreSingle m → empty.vertex_data ≡ []
    → AddsVertices empty m points most → ¬ HasRoom m.shape 1 3 2 → AreTooMany points
are_many empty m points most mesh closed triangles single none adds lacks =
    let all : m.vertex_data ≡ adds.added = adds.points ∙ ap (λ (before : List Point). before ++ adds.added) none in
    let long : length adds.added ≡ m.shape.vertices = sym (ap length all) ∙ mesh.sized.vertex_data in
    let many = many_vertices m mesh closed triangles lacks in
    record {
      different = m.vertex_data;
      from = subst (λ (list : List Point). All (Contains points) list) (sym all) adds.from;
      single = λ i j first second. single i j (omega (arith, first, mesh.sized.vertex_data)) (omega (arith, second, mesh.sized.vertex_data));
      many = omega (arith, many, mesh.sized.vertex_data);
    }

-- an insertion into no triangulation fails
pub triangulation_fails : {A : Type 0} (old new : PlanarMesh (Unit {0}) A) (seen : Points) (points : List Point) (most : ℕ) → seen ≡ new.dcel → IsMesh seen
    → new.dcel.shape.removal ≡ Closed → AllTriangles new.dcel.shape → (IsWholeMesh new → PointsAreSingle new.dcel) → old.dcel.vertex_data ≡ []
    → AddsVertices old.dcel new.dcel points most → (e : InsertionError) → FailsToInsertAll old new e → FailsToTriangulate points e
triangulation_fails old new seen points most same mesh closed triangles single none adds OutOfRange fails = fails
triangulation_fails old new seen points most same mesh closed triangles single none adds TooManyPoints fails =
    are_many old.dcel new.dcel points most (subst (λ (k : Points). IsMesh k) same mesh) closed triangles (single fails.1) none adds fails.0
triangulation_fails old new seen points most same mesh closed triangles single none adds OutOfMemory fails = tt
triangulation_fails old new seen points most same mesh closed triangles single none adds Unfinished fails = tt
