-- The headline: what is true of every mesh, whatever calls made it, also while a removal is open.
use Rattle.std.specs.Prelude.{◌≡◌, ◌+◌, ◌/◌, ◌<◌, ℕ, true, false, []}
use Rattle.dcel_maps.specs.Count.{live_edges, live_faces, used_vertices}
use Rattle.dcel_maps.specs.Maps.{Connected}
use Rattle.dcel_maps.specs.Shapes.{IsAnchored, IsLive, Mesh, Shape, edge_is_live, face_is_live, face_of, map_of, next_of, origin_of, vertex_is_live}
use Rattle.dcel_maps.specs.Walking.{IsOutEdge, IsRoundTrip, ListsOnce, ccw_of, walk_of}
use Rattle.dcel_maps.specs.Words.{TurnsTo, count_of, occurs, word_of}

-- The cycles of `next` are the live faces: from each item of a live face's word the walk by `next` goes round the word and comes back; each
-- live half edge stands in one word, once, that of a live face, and no other number does; and only the outer face may have no cycle, where
-- no edge is live.
pub record FacesAreCycles (s : Shape) : Type 0 where
  pub round : (f h : ℕ) → face_is_live s f ≡ true → 0 < count_of h (word_of s.words f) → IsRoundTrip (next_of s) h (walk_of s (next_of s) h)
  pub word : (f h : ℕ) → face_is_live s f ≡ true → 0 < count_of h (word_of s.words f) → TurnsTo (word_of s.words f) (walk_of s (next_of s) h)
  pub once : (h : ℕ) → IsLive s h → occurs h s.words ≡ 1
  pub on_live : (h : ℕ) → IsLive s h → face_is_live s (face_of s h) ≡ true
  pub no_other : (h : ℕ) → edge_is_live s (h / 2) ≡ false → occurs h s.words ≡ 0
  pub empty : (f : ℕ) → face_is_live s f ≡ true → word_of s.words f ≡ [] → (f ≡ 0) × ((u : ℕ) → edge_is_live s u ≡ false)

-- The cycles of `ccw` are the vertices with a live edge: from each live half edge that starts at a vertex the walk by `ccw` goes through all
-- of those, each once, through no other, and comes back; and each live half edge starts at a live vertex.
pub record VerticesAreCycles (s : Shape) : Type 0 where
  pub round : (v h : ℕ) → IsOutEdge s v h → IsRoundTrip (ccw_of s) h (walk_of s (ccw_of s) h)
  pub each : (v h : ℕ) → IsOutEdge s v h → ListsOnce (IsOutEdge s v) (walk_of s (ccw_of s) h)
  pub at_live : (h : ℕ) → IsLive s h → vertex_is_live s (origin_of s h) ≡ true

-- vertices with a live edge, minus live edges, plus live faces, is two once an edge is live
abbrev pub CountsTwo : Shape → Type 0
CountsTwo s = (u : ℕ) → edge_is_live s u ≡ true → used_vertices s + live_faces s ≡ live_edges s + 2

-- all of it: the live half edges hang together by `next` and `rev`, and anchors are where they should be
pub record Headline {V DE UE F : Type 0} (m : Mesh V DE UE F) : Type 0 where
  pub faces : FacesAreCycles m.shape
  pub vertices : VerticesAreCycles m.shape
  pub connected : Connected (map_of m.shape)
  pub two : CountsTwo m.shape
  pub anchored : IsAnchored m
