-- What is marked in a picture, and what a change of a mesh marks.
use Rattle.std.specs.Prelude.{◌≡◌, ◌↔◌, ◌*◌, ◌/◌, ◌<◌, ℕ, Bool, false, List, [], ◌∷◌, length}
use Rattle.std.specs.List.{slice_index_or}
use Rattle.dcel_maps.specs.Shapes.{IsLive, Shape, edge_is_live, face_of, next_of, origin_of, prev_of, vertex_is_live}
use Rattle.dcel_svg.specs.declared.marks.Marks.{Marks}

module _ {B : Type 0} where
  abbrev pub marks_half_edge : Marks B → ℕ → Bool
  marks_half_edge marks h = slice_index_or marks.half_edges.items h false

  abbrev pub marks_vertex : Marks B → ℕ → Bool
  marks_vertex marks v = slice_index_or marks.vertices.items v false

-- the links of a half edge: its next and previous half edge, its origin and its face
abbrev pub links_of : Shape → ℕ → List ℕ
links_of s h = next_of s h ∷ prev_of s h ∷ origin_of s h ∷ face_of s h ∷ []

-- a half edge is live in both meshes, with the same links, or in neither
pub record KeepsHalfEdge (old new : Shape) (h : ℕ) : Type 0 where
  pub live : edge_is_live old (h / 2) ≡ edge_is_live new (h / 2)
  pub links : IsLive new h → links_of old h ≡ links_of new h

-- a vertex is live in both meshes or in neither
abbrev pub KeepsVertex : Shape → Shape → ℕ → Type 0
KeepsVertex old new v = vertex_is_live old v ≡ vertex_is_live new v

-- of the numbers below n those are marked that are not kept
pub record TellsEach (Keeps : ℕ → Type 0) (n : ℕ) (marks : List Bool) : Type 0 where
  pub number : length marks ≡ n
  pub each : (k : ℕ) → k < n → (slice_index_or marks k false ≡ false) ↔ Keeps k

-- of the half edges and vertices of the new mesh those are marked that are not kept
pub record MarksChanges {B : Type 0} (old new : Shape) (marks : Marks B) : Type 0 where
  pub half_edges : TellsEach (KeepsHalfEdge old new) (2 * new.edges) marks.half_edges.items
  pub vertices : TellsEach (KeepsVertex old new) new.vertices marks.vertices.items
