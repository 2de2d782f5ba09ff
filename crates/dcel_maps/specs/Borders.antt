-- The border of a vertex: what the triangles round it leave where they are given up, and which elements these are.
use Rattle.std.specs.Prelude.{◌≡◌, ◌≢◌, ◌↔◌, ℕ, ◌/◌, ◌<◌, ◌≤◌, ◌==◌, true, List, [], ◌∷◌, length, map, reverse}
use Rattle.dcel_maps.specs.Conditions.{IsTriangle}
use Rattle.dcel_maps.specs.Removals.{Removal, IsInOrder, gives_up_vertex, gives_up_edge, gives_up_face}
use Rattle.dcel_maps.specs.Shapes.{Shape, vertex_is_live, face_of, next_of, prev_of, origin_of}
use Rattle.dcel_maps.specs.Walking.{IsOutEdge, ListsOnce, ccw_of, walk_of}
use Rattle.dcel_maps.specs.Words.{count_of}

-- the first half edge of a list starts at a vertex where no other one of the list starts
abbrev pub StartsAlone : Shape → List ℕ → Type 0
StartsAlone s [] = Unit {0}
StartsAlone s (x ∷ r) = (y : ℕ) → 0 < count_of y r → origin_of s y ≢ origin_of s x

-- The border loop of v, which lies inside triangles alone, three or more: read from its end, it is what comes after the out edges of v,
-- in the order of `ccw` from one of them on; and its last item starts where no other one does.
pub record IsBorderLoop (s : Shape) (border : List ℕ) (v : ℕ) : Type 0 where
  pub live : vertex_is_live s v ≡ true
  pub triangles : (h : ℕ) → IsOutEdge s v h → (0 < face_of s h) × IsTriangle s (face_of s h)
  pub many : 3 ≤ length border
  pub first : ℕ
  pub out : IsOutEdge s v first
  pub ring : reverse border ≡ map (next_of s) (walk_of s (ccw_of s) first)
  pub alone : StartsAlone s (reverse border)

-- the undirected edges at v, and the faces of its out edges
pub record IsEdgeAt (s : Shape) (v u : ℕ) : Type 0 where
  pub half : ℕ
  pub out : IsOutEdge s v half
  pub is : half / 2 ≡ u

pub record IsFaceAt (s : Shape) (v f : ℕ) : Type 0 where
  pub half : ℕ
  pub out : IsOutEdge s v half
  pub is : face_of s half ≡ f

-- the vertex inside a border loop: the half edge before each item starts there
abbrev pub center_of : Shape → List ℕ → ℕ
center_of s [] = 0
center_of s (h ∷ r) = origin_of s (prev_of s h)

-- the border loop of some vertex, with its edges and the faces round it, each once and in any order
pub record IsVertexRing (s : Shape) (border edges faces : List ℕ) : Type 0 where
  pub border_loop : IsBorderLoop s border (center_of s border)
  pub each_edge : ListsOnce (IsEdgeAt s (center_of s border)) edges
  pub each_face : ListsOnce (IsFaceAt s (center_of s border)) faces

-- the record gives up the vertex v, its edges and the faces round it, and nothing else
pub record GivesUpRound (s : Shape) (v : ℕ) (r : Removal) : Type 0 where
  pub vertices : (w : ℕ) → gives_up_vertex r w ≡ (v == w)
  pub edges : (u : ℕ) → (gives_up_edge r u ≡ true) ↔ IsEdgeAt s v u
  pub faces : (f : ℕ) → (gives_up_face r f ≡ true) ↔ IsFaceAt s v f
  pub in_order : IsInOrder r
