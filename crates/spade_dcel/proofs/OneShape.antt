-- Two meshes that have the same links have one shape.
use Rattle.std.proofs.Common.{◌≡◌, ℕ, ◌*◌, ◌/◌, ◌<◌, length, slice_index, slice_index_or, None, refl, sym, ap, ◌∙◌, arith}
use Rattle.dcel_maps.specs.Removals.{gives_up_edge}
use Rattle.dcel_maps.specs.Shapes.{AnchorsWord, IsLive, IsMesh, Mesh, edge_is_live, face_count, map_of, next_of, prev_of}
use Rattle.dcel_maps.specs.Words.{word_of}
use Rattle.dcel_maps.specs.theory.Standing.{Stands}
use Rattle.dcel_maps.proofs.Liveness.{is_live-parts}
use Rattle.dcel_maps.proofs.maps.Agreement.{Agrees}
use Rattle.dcel_maps.proofs.shapes.Maps.{map-sound}
use Rattle.dcel_maps.proofs.shapes.Shown.{anchors-word, word-anchored}
use Rattle.dcel_maps.proofs.walks.Links.{links_stand}
use Rattle.dcel_maps.proofs.words.Agreement.{same_words_stand}
use Rattle.dcel_maps.proofs.words.Reading.{words-stand}
use Rattle.dcel_links.specs.Claims.{Claim, halves}
use Rattle.dcel_links.specs.Meshes.{IsLinked}

module _ {V DE UE F : Type 0} (m n : Mesh V DE UE F) (c : Claim) (m_mesh : IsMesh m) (n_mesh : IsMesh n) (m_linked : IsLinked m.shape c) (n_linked : IsLinked n.shape c) where
  vertices : m.shape.vertices ≡ n.shape.vertices
  vertices = m_linked.vertices ∙ sym n_linked.vertices

  edges : m.shape.edges ≡ n.shape.edges
  edges = let one = m_linked.half_edges in let other = n_linked.half_edges in omega arith

  faces : face_count m.shape ≡ face_count n.shape
  faces = m_linked.faces ∙ sym n_linked.faces

  origins : m.shape.origins ≡ n.shape.origins
  origins = m_linked.origin ∙ sym n_linked.origin

  removals : m.shape.removal ≡ n.shape.removal
  removals = m_linked.closed ∙ sym n_linked.closed

  edge : (u : ℕ) → edge_is_live m.shape u ≡ edge_is_live n.shape u
  edge u = rw (edges, removals) refl

  below : (h : ℕ) → IsLive n.shape h → h < halves c
  below h live = let k = (is_live-parts (gives_up_edge n.shape.removal) n.shape.edges (h / 2) live).0 in let e = n_linked.half_edges in omega arith

  same_next : (h : ℕ) → IsLive n.shape h → next_of m.shape h ≡ next_of n.shape h
  same_next h live = m_linked.next h (below h live) ∙ sym (n_linked.next h (below h live))

  -- what comes before is told by what comes after
  same_prev : (h : ℕ) → IsLive n.shape h → prev_of m.shape h ≡ prev_of n.shape h
  same_prev h live =
      let m_sound = map-sound m_mesh.sound in
      let n_sound = map-sound n_mesh.sound in
      let k : ℕ = prev_of n.shape h in
      let k_live : IsLive n.shape k = n_sound.live_prev h live in
      let leads : next_of m.shape k ≡ h = same_next k k_live ∙ n_sound.next-prev h live in
      ap (prev_of m.shape) (sym leads) ∙ m_sound.prev-next k (edge (k / 2) ∙ k_live)

  agrees : Agrees (map_of n.shape) (map_of m.shape)
  agrees = record {
    vertices = vertices;
    edges = edges;
    faces = faces;
    edge = edge;
    links = record {
      next = same_next;
      prev = same_prev;
      origin = λ h live. ap (λ list. slice_index list h) origins;
      face = λ h live. m_linked.face h (below h live) ∙ sym (n_linked.face h (below h live));
    };
  }

  -- the links of m stand for the words of both, and its anchors stand in them
  same_words : m.shape.words ≡ n.shape.words
  same_words =
      let own : Stands (map_of m.shape) m.shape.words = links_stand m_mesh.sound in
      let others : Stands (map_of m.shape) n.shape.words = same_words_stand (map_of n.shape) (map_of m.shape) agrees n.shape.words (links_stand n_mesh.sound) in
      let long = m_mesh.sized.face_anchors in
      let anchored : (f : ℕ) → f < length n.shape.words → AnchorsWord (word_of n.shape.words f) (slice_index_or m.face_anchors f None) =
      λ f within.
      let o = slice_index_or m.face_anchors f None in
      anchors-word (map_of m.shape) n.shape.words others f o
      (word-anchored (map_of m.shape) m.shape.words own f o (m_mesh.anchored.faces f (omega (arith, faces)))) in
      sym (words-stand (map_of m.shape) m.shape.words own m.face_anchors (2 * m.shape.edges) long m_mesh.anchored.faces (omega arith))
      ∙ words-stand (map_of m.shape) n.shape.words others m.face_anchors (2 * m.shape.edges) (long ∙ faces) anchored (omega arith)

  built : record { vertices = m.shape.vertices; edges = m.shape.edges; words = m.shape.words; origins = m.shape.origins; removal = m.shape.removal } ≡ n.shape
  built = rw (vertices, edges, same_words, origins, removals) refl

  pub one_shape : m.shape ≡ n.shape
  one_shape = built
