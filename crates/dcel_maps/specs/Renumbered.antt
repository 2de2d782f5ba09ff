-- What is left of a mesh once elements that were given up are taken out.
use Rattle.std.specs.Prelude.{◌≡◌, ℕ, ◌/◌, true, map, option_map, slice_index, slice_index_or}
use Rattle.dcel_fixed.specs.HalfEdges.{rev}
use Rattle.dcel_maps.specs.Cyclic.{from_least}
use Rattle.dcel_maps.specs.Renumbering.{edges_down, faces_down, half_of, new_number, renumbered}
use Rattle.dcel_maps.specs.Shapes.{IsLive, Mesh, Shape, edge_is_live, face_anchor, face_count, face_is_live, origin_of, vertex_anchor, vertex_is_live}
use Rattle.dcel_maps.specs.Words.{word_of}

-- What is live in m stands in t under other numbers: half edges with their origins, faces with their words, vertices and faces with their
-- anchors, and each with its data. Halves of one edge stay so, the outer face stays the outer one, and nothing else is live in t.
pub record LeavesLive {V DE UE F : Type 0} (m t : Mesh V DE UE F) (half vertex face : ℕ → ℕ) : Type 0 where
  pub half_edge : (h : ℕ) → IsLive m.shape h → IsLive t.shape (half h)
  pub turn : (h : ℕ) → rev (half h) ≡ half (rev h)
  pub origin : (h : ℕ) → IsLive m.shape h → origin_of t.shape (half h) ≡ vertex (origin_of m.shape h)
  pub directed : (h : ℕ) (none : DE) → IsLive m.shape h → slice_index_or t.directed_data (half h) none ≡ slice_index_or m.directed_data h none
  pub undirected : (h : ℕ) (none : UE) → IsLive m.shape h → slice_index_or t.undirected_data (half h / 2) none ≡ slice_index_or m.undirected_data (h / 2) none
  pub vertex_live : (v : ℕ) → vertex_is_live m.shape v ≡ true → vertex_is_live t.shape (vertex v) ≡ true
  pub vertex_datum : (v : ℕ) (none : V) → vertex_is_live m.shape v ≡ true → slice_index_or t.vertex_data (vertex v) none ≡ slice_index_or m.vertex_data v none
  pub vertex_anchored : (v : ℕ) → vertex_is_live m.shape v ≡ true → vertex_anchor t (vertex v) ≡ option_map half (vertex_anchor m v)
  pub face_live : (f : ℕ) → face_is_live m.shape f ≡ true → face_is_live t.shape (face f) ≡ true
  pub word : (f : ℕ) → face_is_live m.shape f ≡ true → word_of t.shape.words (face f) ≡ from_least (map half (word_of m.shape.words f))
  pub face_datum : (f : ℕ) (none : F) → face_is_live m.shape f ≡ true → slice_index_or t.face_data (face f) none ≡ slice_index_or m.face_data f none
  pub face_anchored : (f : ℕ) → face_is_live m.shape f ≡ true → face_anchor t (face f) ≡ option_map half (face_anchor m f)
  pub outer : face 0 ≡ 0
  pub each_half_edge : (k : ℕ) → IsLive t.shape k → (h : ℕ) × IsLive m.shape h × (half h ≡ k)
  pub each_vertex : (w : ℕ) → vertex_is_live t.shape w ≡ true → (v : ℕ) × (vertex_is_live m.shape v ≡ true) × (vertex v ≡ w)
  pub each_face : (g : ℕ) → face_is_live t.shape g ≡ true → (f : ℕ) × (face_is_live m.shape f ≡ true) × (face f ≡ g)

-- the numbers that edges and faces get at cleanup
abbrev pub new_edge : Shape → ℕ → ℕ
new_edge s u = new_number s.edges (edges_down s.removal) u

abbrev pub new_face : Shape → ℕ → ℕ
new_face s f = new_number (face_count s) (faces_down s.removal) f

abbrev pub new_half : Shape → ℕ → ℕ
new_half s h = half_of (new_edge s) h

-- they are the places where the old numbers stand among the names that are left
pub record AreNumbered (s : Shape) : Type 0 where
  pub edges : (u : ℕ) → edge_is_live s u ≡ true → slice_index (renumbered s.edges (edges_down s.removal)) (new_edge s u) ≡ u
  pub faces : (f : ℕ) → face_is_live s f ≡ true → slice_index (renumbered (face_count s) (faces_down s.removal)) (new_face s f) ≡ f
