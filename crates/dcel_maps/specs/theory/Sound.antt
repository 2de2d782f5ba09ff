-- When a map is sound, and when it is a sphere: as the proofs have it of functions on numbers.
use Rattle.std.specs.Prelude.{◌≡◌, ◌≢◌, ◌↔◌, ◌+◌, ◌/◌, ◌<◌, ℕ, Bool, true}
use Rattle.dcel_fixed.specs.HalfEdges.{rev}
use Rattle.dcel_maps.specs.Maps.{Map, Live, ccw, Reaches, By, Connected, count, is_used, starts_edge}

-- numbers below the counts; a face is one cycle of `next`, a vertex one cycle of `ccw`, and no edge is a loop
pub record Sound (M : Map) : Type 0 where
  pub below_edges : (x : ℕ) → Live M x → x / 2 < M.edges
  pub below_vertices : (x : ℕ) → Live M x → M.origin x < M.vertices
  pub below_faces : (x : ℕ) → Live M x → M.face x < M.faces
  pub live_next : (x : ℕ) → Live M x → Live M (M.next x)
  pub live_prev : (x : ℕ) → Live M x → Live M (M.prev x)
  pub prev-next : (x : ℕ) → Live M x → M.prev (M.next x) ≡ x
  pub next-prev : (x : ℕ) → Live M x → M.next (M.prev x) ≡ x
  pub origin-next : (x : ℕ) → Live M x → M.origin (M.next x) ≡ M.origin (rev x)
  pub two_ends : (x : ℕ) → Live M x → M.origin x ≢ M.origin (rev x)
  pub one_face : (x y : ℕ) → Live M x → Live M y → (M.face x ≡ M.face y) ↔ Reaches (By M.next) x y
  pub one_origin : (x y : ℕ) → Live M x → Live M y → (M.origin x ≡ M.origin y) ↔ Reaches (By (ccw M)) x y

-- some live half edge lies at the face f
unfoldable pub has_word : Map → ℕ → Bool
has_word M f = is_used M M.face f

-- connected, and Euler's formula: where an edge is live, vertices that start one, less live edges, plus faces with a word, are two
pub record Sphere (M : Map) : Type 0 where
  pub connected : Connected M
  pub euler : (u : ℕ) → M.edge u ≡ true
      → count (starts_edge M) M.vertices + count (has_word M) M.faces ≡ count M.edge M.edges + 2
