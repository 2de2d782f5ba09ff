-- A mesh with its hole filled is a mesh.
use Rattle.std.proofs.Common.{◌≡◌, ◌≢◌, inl, inr, ◌+◌, ◌-◌, ◌*◌, ◌<◌, ℕ, suc, false, List, ◌∷◌, length, slice_index_or, Option, Some, None, sym, ap, ◌∙◌, subst, arith}
use Rattle.std.proofs.lemmas.Bool.{cases_Bool, cases_lt, false≢true}
use Rattle.std.proofs.lemmas.List.{get_or-append-add, get_or_append_left, length-append}
use Rattle.dcel_maps.specs.Conditions.{HasRoom}
use Rattle.dcel_maps.specs.Hiding.{kept_face_anchors}
use Rattle.dcel_maps.specs.Removals.{Closed, IsWithin, Removal, gives_up_edge, gives_up_face, gives_up_vertex, shown}
use Rattle.dcel_maps.specs.Shapes.{AnchorsVertex, AnchorsWord, IsMesh, IsSized, Mesh, Shape, face_anchor, face_count, origin_of, vertex_anchor}
use Rattle.dcel_maps.specs.Words.{count_of, word_of}
use Rattle.dcel_maps.specs.edits.Fill.{anchors_round, ear_anchors, ear_origins, ring_filled}
use Rattle.dcel_maps.proofs.Shown.{length-shown}
use Rattle.dcel_maps.proofs.removal.Ears.{ear_anchored, length-anchors_round, length-ear_anchors, length-ear_origins, round_anchor}
use Rattle.dcel_maps.proofs.removal.Filled.{face_below, filled-sound, filled-sphere, from_old, given_below, item_kept, last_kept, none_at, old_kept, word-ear, word-given, word-kept, words_long}
use Rattle.dcel_maps.proofs.removal.Hiding.{hidden, length-hiding, not_hidden}
use Rattle.dcel_maps.proofs.words.Counts.{count-later, first_or_later}
use Rattle.dcel_maps.proofs.removal.Hollows.{HollowOf}

module _ {V DE UE F : Type 0} (m : Mesh V DE UE F) (p q r : ℕ) (rest : List ℕ) (halves : List DE) (edges : List UE) (faces : List F) (mesh : IsMesh m) (closed : m.shape.removal ≡ Closed) (removal : Removal) (hole : HollowOf m.shape removal (p ∷ q ∷ r ∷ rest) (face_count m.shape + length rest)) where
  abbrev s : Shape
  s = m.shape

  abbrev N : Mesh V DE UE F
  N = ring_filled m removal p q r rest halves edges faces

  abbrev t : Shape
  t = N.shape

  abbrev L : ℕ
  L = face_count s

  -- an old anchor of a vertex off the ring
  off_ring : (w : ℕ) → gives_up_vertex removal w ≡ false → ((y : ℕ) → 0 < count_of y (q ∷ r ∷ rest) → origin_of s y ≢ w) → origin_of s p ≢ w
      → (a : Option ℕ) → AnchorsVertex s w a → AnchorsVertex t w a
  off_ring w stays off off_p None bare = λ h live at.
      let (y, was, same) = from_old m p q r rest halves edges faces mesh closed removal hole h live in bare y was (same ∙ at)
  off_ring w stays off off_p (Some h) anchors = elim (old_kept m p q r rest halves edges faces mesh closed removal hole h anchors.0) [
    | inl (inl given) ↦ absurd (false≢true (sym stays ∙ ap (gives_up_vertex removal) (sym anchors.1) ∙ given))
    | inl (inr there) ↦
        let starts : origin_of s there.0 ≡ w = there.2 ∙ anchors.1 in
        absurd (elim (first_or_later there.0 p (q ∷ r ∷ rest) there.1) [
          | inl first ↦ off_p (ap (origin_of s) (sym first) ∙ starts)
          | inr later ↦ off there.0 later starts
        ])
    | inr kept ↦ (kept.0, kept.1 ∙ anchors.1)
  ]

  abbrev round : List (Option ℕ)
  round = anchors_round (origin_of s) (origin_of s p) m.vertex_anchors s.edges p q r rest

  vertices_anchored : (w : ℕ) → w < s.vertices → AnchorsVertex t w (vertex_anchor N w)
  vertices_anchored w below = elim (cases_Bool (gives_up_vertex removal w)) [
    | inl given ↦
        subst (AnchorsVertex t w) (sym (hidden (gives_up_vertex removal) None round w given))
        (none_at m p q r rest halves edges faces mesh closed removal hole w given)
    | inr stays ↦
        subst (AnchorsVertex t w) (sym (not_hidden (gives_up_vertex removal) None round w stays))
        (round_anchor (AnchorsVertex t w) (origin_of s) (origin_of s p) w rest m.vertex_anchors s.edges p q r (omega (arith, below, mesh.sized.vertex_anchors))
        (λ y found at.
        let kept = item_kept m p q r rest halves edges faces mesh closed removal hole y (count-later y p (q ∷ r ∷ rest) found) in
        (kept.0, kept.1 ∙ at))
        (λ at. let kept = last_kept m p q r rest halves edges faces mesh closed removal hole in (kept.0, kept.1 ∙ at))
        (λ off off_p. off_ring w stays off off_p (vertex_anchor m w) (mesh.anchored.vertices w below)))
  ]

  kept_long : length (kept_face_anchors removal m.face_anchors) ≡ L
  kept_long = length-hiding (gives_up_face removal) None m.face_anchors ∙ mesh.sized.face_anchors

  faces_anchored : (f : ℕ) → f < face_count t → AnchorsWord (word_of t.words f) (face_anchor N f)
  faces_anchored f within = elim (cases_lt f L) [
    | inl below ↦
        let left : face_anchor N f ≡ slice_index_or (kept_face_anchors removal m.face_anchors) f None =
        get_or_append_left (kept_face_anchors removal m.face_anchors) (ear_anchors s.edges p rest) None f (omega (arith, below, kept_long)) in
        elim (cases_Bool (gives_up_face removal f)) [
          | inl given ↦
              subst (AnchorsWord (word_of t.words f)) (sym (left ∙ hidden (gives_up_face removal) None m.face_anchors f given))
              (word-given m p q r rest halves edges faces mesh closed removal hole f given)
          | inr kept ↦
              subst (AnchorsWord (word_of t.words f)) (sym (left ∙ not_hidden (gives_up_face removal) None m.face_anchors f kept))
              (subst (λ w. AnchorsWord w (face_anchor m f))
              (sym (word-kept m p q r rest halves edges faces mesh closed removal hole f below kept))
              (mesh.anchored.faces f below))
        ]
    | inr past ↦
        let i = f - L in
        let place : L + i ≡ f = omega (arith, past) in
        let anchor : face_anchor N (L + i) ≡ slice_index_or (ear_anchors s.edges p rest) i None =
        ap (λ z. face_anchor N (z + i)) (sym kept_long)
        ∙ get_or-append-add (kept_face_anchors removal m.face_anchors) (ear_anchors s.edges p rest) i None in
        subst (λ g. AnchorsWord (word_of t.words g) (face_anchor N g)) place
        (subst (λ a. AnchorsWord (word_of t.words (L + i)) a) (sym anchor)
        (subst (λ w. AnchorsWord w (slice_index_or (ear_anchors s.edges p rest) i None))
        (sym (word-ear m p q r rest halves edges faces mesh closed removal hole i))
        (ear_anchored s.edges p q r rest i
        (omega (arith, within, past, words_long m p q r rest halves edges faces mesh closed removal hole)))))
  ]

  long : face_count t ≡ L + suc (length rest)
  long = words_long m p q r rest halves edges faces mesh closed removal hole

  is_within : IsWithin t.removal s.vertices (s.edges + length rest) (face_count t)
  is_within = record {
    vertices = hole.within.vertices;
    edges = λ u given. omega (arith, given_below m p q r rest halves edges faces mesh closed removal hole u given);
    faces = λ f given.
        let below = face_below m p q r rest halves edges faces mesh closed removal hole f given in
        (below.0, omega (arith, below.1, long));
    in_order = hole.within.in_order;
  }

  module _ (room : HasRoom m.shape 0 (length rest) (suc (length rest))) (half_count : length halves ≡ 2 * length rest) (edge_count : length edges ≡ length rest) (new_faces : length faces ≡ suc (length rest)) where
    is_sized : IsSized N
    is_sized =
        let sized = mesh.sized in record {
          vertex_data = sized.vertex_data;
          vertex_anchors =
              length-hiding (gives_up_vertex removal) None round
              ∙ length-anchors_round (origin_of s) (origin_of s p) m.vertex_anchors s.edges p q r rest ∙ sized.vertex_anchors;
          undirected_data = omega (arith, length-append m.undirected_data edges, sized.undirected_data, edge_count);
          directed_data = omega (arith, length-append m.directed_data halves, sized.directed_data, half_count);
          origins =
              omega (
                arith,
                length-append (shown (gives_up_edge removal) s.origins) (ear_origins (origin_of s) (origin_of s p) r rest),
                length-shown (gives_up_edge removal) s.origins,
                length-ear_origins (origin_of s) (origin_of s p) r rest,
                sized.origins,
              );
          face_data = omega (arith, length-append m.face_data faces, sized.face_data, new_faces, long);
          face_anchors =
              omega (
                arith,
                length-append (kept_face_anchors removal m.face_anchors) (ear_anchors s.edges p rest),
                kept_long,
                length-ear_anchors s.edges p rest,
                long,
              );
          outer = omega (arith, long);
          few_vertices = sized.few_vertices;
          few_edges = room.for_edges;
          few_faces = omega (arith, room.for_faces, long);
          within = is_within;
        }

    pub ring_filled-mesh : IsMesh (ring_filled m removal p q r rest halves edges faces)
    ring_filled-mesh = record {
      sound = filled-sound m p q r rest halves edges faces mesh closed removal hole;
      sphere = filled-sphere m p q r rest halves edges faces mesh closed removal hole;
      anchored = record { vertices = vertices_anchored; faces = faces_anchored };
      sized = is_sized;
    }
