-- What operations ask of a shape.
use Rattle.std.specs.Prelude.{◌≡◌, ◌≢◌, ◌⊎◌, ℕ, ◌+◌, ◌*◌, ◌≤◌, ◌^◌, true, length}
use Rattle.dcel_fixed.specs.HalfEdges.{rev}
use Rattle.dcel_maps.specs.Maps.{IsBare}
use Rattle.dcel_maps.specs.Removals.{Closed, Cleaned}
use Rattle.dcel_maps.specs.Shapes.{Shape, IsLive, vertex_is_live, edge_is_live, face_is_live, next_of, prev_of, origin_of, end_of, face_of, face_count, map_of}
use Rattle.dcel_maps.specs.Walking.{IsOutEdge}
use Rattle.dcel_maps.specs.Words.{word_of}

-- v is live, and no live half edge starts there
pub record IsUnconnected (s : Shape) (v : ℕ) : Type 0 where
  pub live : vertex_is_live s v ≡ true
  pub bare : IsBare (map_of s) v

-- v is unconnected while no removal is open, or it alone is still given up
abbrev pub CanSwapRemove : Shape → ℕ → Type 0
CanSwapRemove s v = ((s.removal ≡ Closed) × IsUnconnected s v) ⊎ (s.removal ≡ Cleaned v)

-- h is the one live half edge that starts at v
pub record IsOnlyOut (s : Shape) (v h : ℕ) : Type 0 where
  pub edge : IsOutEdge s v h
  pub open edge use {live as out, start as from}
  pub only : (k : ℕ) → IsLive s k → origin_of s k ≡ v → k ≡ h

-- v is live with exactly one out edge
pub record IsLineEnd (s : Shape) (v : ℕ) : Type 0 where
  pub live : vertex_is_live s v ≡ true
  pub one : (h : ℕ) × IsOnlyOut s v h

-- f is live, and its word has three half edges
pub record IsTriangle (s : Shape) (f : ℕ) : Type 0 where
  pub live : face_is_live s f ≡ true
  pub three : length (word_of s.words f) ≡ 3

-- h is live, and both halves of its edge lie on one face
pub record IsBridge (s : Shape) (h : ℕ) : Type 0 where
  pub live : IsLive s h
  pub one_face : face_of s h ≡ face_of s (rev h)

-- the edge u is live between two triangles, one of which may be the outer face, and their corners opposite it are two vertices
pub record CanFlip (s : Shape) (u : ℕ) : Type 0 where
  pub live : edge_is_live s u ≡ true
  pub triangle : IsTriangle s (face_of s (2 * u))
  pub facing : IsTriangle s (face_of s (2 * u + 1))
  pub corners : origin_of s (prev_of s (2 * u)) ≢ origin_of s (prev_of s (2 * u + 1))

-- h is live and on the outer face, and the next half edge doesn't end where h starts
pub record CanCloseOutside (s : Shape) (h : ℕ) : Type 0 where
  pub live : IsLive s h
  pub outer : face_of s h ≡ 0
  pub apart : end_of s (next_of s h) ≢ origin_of s h

-- there are numbers for so many more vertices, edges and faces
pub record HasRoom (s : Shape) (vertices edges faces : ℕ) : Type 0 where
  pub for_vertices : s.vertices + vertices ≤ 2 ^ 32
  pub for_edges : s.edges + edges ≤ 2 ^ 31
  pub for_faces : face_count s + faces ≤ 2 ^ 32
