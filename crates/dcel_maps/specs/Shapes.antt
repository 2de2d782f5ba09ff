-- Meshes: words, origins, data, anchors and the removal record; and what is true of each.
use Rattle.std.specs.Prelude.{◌≡◌, ◌≢◌, ◌↔◌, ◌+◌, ◌*◌, ◌/◌, ◌<◌, ◌≤◌, ◌^◌, ℕ, Bool, true, false, List, [], length, slice_index, slice_index_or, unwrap_or, Option, Some, None}
use Rattle.dcel_fixed.specs.HalfEdges.{rev}
use Rattle.dcel_maps.specs.Maps.{Map, Reaches, By, ccw, Connected, Starts, count, starts_edge}
use Rattle.dcel_maps.specs.Removals.{Removal, gives_up_vertex, gives_up_edge, gives_up_face, is_live, IsWithin}
use Rattle.dcel_maps.specs.Words.{count_of, occurs, word_of, IsLeastFirst, next_in, prev_in, face_in}

-- a mesh without its data: counts, a word for each face, an origin for each half edge, and the removal record
pub record Shape : Type 0 where
  pub vertices : ℕ
  pub edges : ℕ
  pub words : List (List ℕ)
  pub origins : List ℕ
  pub removal : Removal

-- a mesh: its shape, an anchor for each vertex and face, and the data
pub record Mesh (V DE UE F : Type 0) : Type 0 where
  pub shape : Shape
  pub vertex_anchors : List (Option ℕ)
  pub face_anchors : List (Option ℕ)
  pub vertex_data : List V
  pub directed_data : List DE
  pub undirected_data : List UE
  pub face_data : List F

abbrev pub face_count : Shape → ℕ
face_count s = length s.words

-- which elements are live
abbrev pub vertex_is_live : Shape → ℕ → Bool
vertex_is_live s v = is_live (gives_up_vertex s.removal) s.vertices v

abbrev pub edge_is_live : Shape → ℕ → Bool
edge_is_live s u = is_live (gives_up_edge s.removal) s.edges u

abbrev pub face_is_live : Shape → ℕ → Bool
face_is_live s f = is_live (gives_up_face s.removal) (face_count s) f

-- a half edge is live where its edge is
abbrev pub IsLive : Shape → ℕ → Type 0
IsLive s h = edge_is_live s (h / 2) ≡ true

-- the links, read off the words
abbrev pub next_of : Shape → ℕ → ℕ
next_of s h = next_in s.words h

abbrev pub prev_of : Shape → ℕ → ℕ
prev_of s h = prev_in s.words h

abbrev pub face_of : Shape → ℕ → ℕ
face_of s h = face_in s.words h

abbrev pub origin_of : Shape → ℕ → ℕ
origin_of s h = slice_index s.origins h

-- where a half edge ends
abbrev pub end_of : Shape → ℕ → ℕ
end_of s h = origin_of s (rev h)

-- the combinatorial map of a shape
abbrev pub map_of : Shape → Map
map_of s = record {
  vertices = s.vertices;
  edges = s.edges;
  faces = face_count s;
  edge = edge_is_live s;
  next = next_of s;
  prev = prev_of s;
  origin = origin_of s;
  face = face_of s;
}

-- Each live half edge stands in one word, once, and nothing else does. Faces that are given up have no word, other inner faces have
-- one, and the outer face has one where an edge is live. Edges join different live vertices, end to start along each word, and two
-- half edges start at one vertex just where `ccw` leads from one to the other.
pub record IsSound (s : Shape) : Type 0 where
  pub once : (h : ℕ) → IsLive s h → occurs h s.words ≡ 1
  pub no_other : (h : ℕ) → edge_is_live s (h / 2) ≡ false → occurs h s.words ≡ 0
  pub least_first : (f : ℕ) → IsLeastFirst (word_of s.words f)
  pub bare : (f : ℕ) → face_is_live s f ≡ false → word_of s.words f ≡ []
  pub inner : (f : ℕ) → 0 < f → face_is_live s f ≡ true → word_of s.words f ≢ []
  pub outer : (word_of s.words 0 ≡ []) ↔ ((u : ℕ) → edge_is_live s u ≡ false)
  pub joined : (h : ℕ) → IsLive s h → origin_of s (next_of s h) ≡ end_of s h
  pub two_ends : (h : ℕ) → IsLive s h → origin_of s h ≢ end_of s h
  pub starts_live : (h : ℕ) → IsLive s h → vertex_is_live s (origin_of s h) ≡ true
  pub one_origin : (h k : ℕ) → IsLive s h → IsLive s k → (origin_of s h ≡ origin_of s k) ↔ Reaches (By (ccw (map_of s))) h k

-- The live map hangs together by `next` and `rev`, and Euler's formula gives the sphere: vertices with a live edge, minus live
-- edges, plus live faces, is two once an edge is live.
pub record IsSphere (s : Shape) : Type 0 where
  pub connected : Connected (map_of s)
  pub euler : (u : ℕ) → edge_is_live s u ≡ true → count (starts_edge (map_of s)) s.vertices + count (face_is_live s) (face_count s) ≡ count (edge_is_live s) s.edges + 2

-- a vertex's anchor is a live half edge that starts there, and None just where there is none
abbrev pub AnchorsVertex : Shape → ℕ → Option ℕ → Type 0
AnchorsVertex s = Starts (map_of s)

-- a face's anchor stands in its word, and is None just where the word is empty
abbrev pub AnchorsWord : List ℕ → Option ℕ → Type 0
AnchorsWord w None = w ≡ []
AnchorsWord w (Some h) = 0 < count_of h w

abbrev pub vertex_anchor : {V DE UE F : Type 0} → Mesh V DE UE F → ℕ → Option ℕ
vertex_anchor m v = slice_index_or m.vertex_anchors v None

abbrev pub face_anchor : {V DE UE F : Type 0} → Mesh V DE UE F → ℕ → Option ℕ
face_anchor m f = slice_index_or m.face_anchors f None

-- the out edge of a vertex and the adjacent edge of a face: their anchors
abbrev pub out_edge_of : {V DE UE F : Type 0} → Mesh V DE UE F → ℕ → ℕ
out_edge_of m v = unwrap_or (vertex_anchor m v) 0

abbrev pub adjacent_edge_of : {V DE UE F : Type 0} → Mesh V DE UE F → ℕ → ℕ
adjacent_edge_of m f = unwrap_or (face_anchor m f) 0

pub record IsAnchored {V DE UE F : Type 0} (m : Mesh V DE UE F) : Type 0 where
  pub vertices : (v : ℕ) → v < m.shape.vertices → AnchorsVertex m.shape v (vertex_anchor m v)
  pub faces : (f : ℕ) → f < face_count m.shape → AnchorsWord (word_of m.shape.words f) (face_anchor m f)

-- each number has its data, its anchor and its origin, and numbers of half edges, vertices and faces are below 2^32
pub record IsSized {V DE UE F : Type 0} (m : Mesh V DE UE F) : Type 0 where
  pub vertex_data : length m.vertex_data ≡ m.shape.vertices
  pub vertex_anchors : length m.vertex_anchors ≡ m.shape.vertices
  pub undirected_data : length m.undirected_data ≡ m.shape.edges
  pub directed_data : length m.directed_data ≡ 2 * m.shape.edges
  pub origins : length m.shape.origins ≡ 2 * m.shape.edges
  pub face_data : length m.face_data ≡ face_count m.shape
  pub face_anchors : length m.face_anchors ≡ face_count m.shape
  pub outer : 0 < face_count m.shape
  pub few_vertices : m.shape.vertices ≤ 2 ^ 32
  pub few_edges : m.shape.edges ≤ 2 ^ 31
  pub few_faces : face_count m.shape ≤ 2 ^ 32
  pub within : IsWithin m.shape.removal m.shape.vertices m.shape.edges (face_count m.shape)

-- what is true of every mesh
pub record IsMesh {V DE UE F : Type 0} (m : Mesh V DE UE F) : Type 0 where
  pub sound : IsSound m.shape
  pub sphere : IsSphere m.shape
  pub anchored : IsAnchored m
  pub sized : IsSized m
