-- The writes of an edge that is taken out leave the lists of the mesh without it.
use Rattle.std.proofs.Common.{◌≡◌, ◌≢◌, inl, inr, ℕ, ◌-◌, ◌*◌, ◌/◌, ◌<◌, true, List, [], length, map, option_map, slice_index, slice_index_or, slice_set, Option, Some, None, refl, sym, ap, ◌∙◌, arith}
use Rattle.dcel_edits.proofs.Dropping.{edge_out-last, edge_out-moved}
use Rattle.dcel_maps.proofs.maps.Soundness.{rev_live}
use Rattle.dcel_maps.proofs.maps.Halves.{rev_half, rev_or_same}
use Rattle.dcel_fixed.specs.HalfEdges.{rev}
use Rattle.std.proofs.lemmas.Bool.{cases_eq, false_from_ne_true}
use Rattle.std.proofs.lemmas.List.{ext_get_or, get_or-map, length-map, length-set}
use Rattle.dcel_store.specs.Lists.{Lists}
use Rattle.dcel_edits.specs.Stored.{IsStored, mesh_of, stored_map}
use Rattle.dcel_edits.specs.TakingOut.{edge_dropped, edge_moved, CanLoseEdge, CanRename, edge_out, links_moved}
use Rattle.dcel_maps.specs.Maps.{Live, Map}
use Rattle.dcel_maps.specs.Removals.{Removal, gives_up_edge}
use Rattle.dcel_maps.specs.Renumbering.{edge_taken_out, half_of, last_put, moved, without_edge}
use Rattle.dcel_maps.specs.Words.{count_of}
use Rattle.dcel_edits.proofs.Mending.{anchors-mended, links-mended, two-mended, half-kept}
use Rattle.dcel_edits.proofs.Reading.{anchor_starts, face_anchor-lies, face_of-is, origin_of-is}
use Rattle.dcel_edits.proofs.stored.EdgesOut.{edge_out-held, half_stays}
use Rattle.dcel_edits.proofs.stored.Holding.{Holds}
use Rattle.dcel_maps.proofs.Liveness.{is_live-from}
use Rattle.dcel_maps.proofs.renumbering.Edges.{IsLastEdgeOut}
use Rattle.dcel_maps.proofs.renumbering.LastPut.{length-last_put}
use Rattle.dcel_maps.proofs.renumbering.Moves.{half_of-bit, half_of-half, half_of-rev, moved-below, moved-last}

-- an anchor that names no half of the last edge keeps its number
anchor-kept : (last d : ℕ) (o : Option ℕ) → ((h : ℕ) → o ≡ Some h → h / 2 ≢ last) → option_map (half_of (moved last d)) o ≡ o
anchor-kept last d None apart = refl
anchor-kept last d (Some h) apart = ap (λ (k : ℕ). Some k) (half-kept last d h (apart h refl))

module _ {V DE UE F : Type 0} (s : Lists V DE UE F) (r : Removal) (d : ℕ) (stored : IsStored s r) (out : IsLastEdgeOut (mesh_of s r).shape d) where
  abbrev S : Map
  S = stored_map s r

  abbrev n : ℕ
  n = length s.undirected_data

  abbrev half : ℕ → ℕ
  half = half_of (moved (length s.undirected_data - 1) d)

  not_out : (h : ℕ) → Live S h → h / 2 ≢ d
  not_out = half_stays s r d stored out

  nexts : length s.next ≡ 2 * n
  nexts = stored.lengths.of_next

  prevs : length s.prev ≡ 2 * n
  prevs = stored.lengths.of_prev ∙ nexts

  -- the last edge moves
  module _ (inside : d ≢ n - 1) where
    abbrev a : ℕ
    a = 2 * (n - 1)

    abbrev b : ℕ
    b = rev (2 * (n - 1))

    edge_a : a / 2 ≡ n - 1
    edge_a = omega arith

    last_live : S.edge (n - 1) ≡ true
    last_live =
        is_live-from (gives_up_edge r) n (n - 1) (omega (arith, out.below))
        (false_from_ne_true (gives_up_edge r (n - 1)) (λ gone. omega (arith, inside, out.below, out.largest (n - 1) gone)))

    live_a : Live S a
    live_a = ap S.edge edge_a ∙ last_live

    live_b : Live S b
    live_b = rev_live S a live_a

    moved_a : half a ≡ 2 * d
    moved_a =
        let whole = half_of-half (moved (n - 1) d) a ∙ ap (moved (n - 1) d) edge_a ∙ moved-last (n - 1) d in
        omega (arith, whole, half_of-bit (moved (n - 1) d) a)

    moved_b : half b ≡ rev (2 * d)
    moved_b = sym (half_of-rev (moved (n - 1) d) a) ∙ ap rev moved_a

    apart : half a ≢ b
    apart same =
        let d_is : 2 * d / 2 ≡ d = omega arith in
        let halves = ap (λ h. h / 2) (sym moved_a ∙ same) ∙ rev_half a ∙ edge_a in
        inside (sym d_is ∙ halves)

    -- other half edges keep their numbers
    other-kept : (h : ℕ) → h ≢ a → h ≢ b → half h ≡ h
    other-kept h not_a not_b =
        half-kept (n - 1) d h (λ last. elim (rev_or_same h a (last ∙ sym edge_a)) [ inl first ↦ not_a first | inr second ↦ not_b second ])

    -- the anchors that name a half edge are those of its origin and of its face
    vertex-at : (h k : ℕ) → slice_index_or s.vertex_anchors k None ≡ Some h → k ≡ slice_index s.origin h
    vertex-at h k some = let starts = anchor_starts stored k h some in sym starts.1 ∙ origin_of-is s r h starts.0

    face-at : (h k : ℕ) → slice_index_or s.face_anchors k None ≡ Some h → k ≡ slice_index s.face h
    face-at h k some = let lies = face_anchor-lies stored k h some in sym lies.1 ∙ face_of-is stored h lies.0

    vertex_in : (h : ℕ) → Live S h → slice_index s.origin h < length s.vertex_anchors
    vertex_in h live = omega (arith, stored.sound.below_vertices h live, stored.lengths.of_vertex_anchors)

    face_in : (h : ℕ) → Live S h → slice_index s.face h < length s.face_anchors
    face_in h live = omega (arith, stored.sound.below_faces h live, stored.lengths.of_face_anchors)

    -- what a live half edge is linked to is in range once an edge is out
    half_in : (h : ℕ) → Live S h → half h < length (last_put 2 s.next (2 * d))
    half_in h live =
        let whole = half_of-half (moved (n - 1) d) h in
        let is = moved-below (n - 1) d (h / 2) (omega (arith, out.below)) (omega (arith, stored.sound.below_edges h live)) (not_out h live) in
        omega (arith, whole, is, nexts, length-last_put 2 s.next (2 * d))

    can_rename : (h : ℕ) → Live S h → CanRename (edge_dropped s d) (links_moved s (n - 1) d h)
    can_rename h live = record {
      next_in = half_in (slice_index s.next h) (stored.sound.live_next h live);
      prev_in = half_in (slice_index s.prev h) (stored.sound.live_prev h live);
      origin_in = vertex_in h live;
      face_in = face_in h live;
    }

    vertex_same : (edge_moved s d).vertex_anchors ≡ map (option_map half) s.vertex_anchors
    vertex_same =
        let mended = anchors-mended half a b apart s.vertex_anchors (slice_index s.origin a) (slice_index s.origin b)
        (vertex_in a live_a) (vertex_in b live_b) (vertex-at a) (vertex-at b) (λ k h some. other-kept h) in
        rw (moved_a, moved_b) at mended

    face_same : (edge_moved s d).face_anchors ≡ map (option_map half) s.face_anchors
    face_same =
        let mended = anchors-mended half a b apart s.face_anchors (slice_index s.face a) (slice_index s.face b)
        (face_in a live_a) (face_in b live_b) (face-at a) (face-at b) (λ k h some. other-kept h) in
        rw (moved_a, moved_b) at mended

    edge_moved-held : Holds (edge_moved s d) (without_edge r d) (edge_taken_out (mesh_of s r) d)
    edge_moved-held =
        let next_long = length-last_put 2 s.next (2 * d) in
        let prev_long = length-last_put 2 s.prev (2 * d) in
        let lengths = stored.lengths in
        let new_next =
        length-set (slice_set (last_put 2 s.next (2 * d)) (half (slice_index s.prev a)) (2 * d)) (half (slice_index s.prev b)) (rev (2 * d))
        ∙ length-set (last_put 2 s.next (2 * d)) (half (slice_index s.prev a)) (2 * d) in
        let new_prev =
        length-set (slice_set (last_put 2 s.prev (2 * d)) (half (slice_index s.next a)) (2 * d)) (half (slice_index s.next b)) (rev (2 * d))
        ∙ length-set (last_put 2 s.prev (2 * d)) (half (slice_index s.next a)) (2 * d) in
        edge_out-held s r d stored out (edge_moved s d).next (edge_moved s d).prev (edge_moved s d).vertex_anchors (edge_moved s d).face_anchors
        (record {
          of_vertex_anchors =
              ap length vertex_same ∙ length-map s.vertex_anchors (option_map half) ∙ lengths.of_vertex_anchors;
          of_next = omega (arith, new_next, next_long, nexts, length-last_put 1 s.undirected_data d);
          of_prev = omega (arith, new_next, new_prev, next_long, prev_long, nexts, prevs);
          of_origin = omega (arith, new_next, next_long, lengths.of_origin, length-last_put 2 s.origin (2 * d));
          of_face = omega (arith, new_next, next_long, lengths.of_face, length-last_put 2 s.face (2 * d));
          of_directed_data = omega (arith, new_next, next_long, lengths.of_directed_data, length-last_put 2 s.directed_data (2 * d));
          of_face_anchors = ap length face_same ∙ length-map s.face_anchors (option_map half) ∙ lengths.of_face_anchors;
        })
        (two-mended S n d refl out.below not_out stored.sound (slice_index s.next) s.next nexts (λ h live. refl)
        (slice_index s.prev) stored.sound.live_prev stored.sound.next-prev stored.sound.prev-next last_live)
        (two-mended S n d refl out.below not_out stored.sound (slice_index s.prev) s.prev prevs (λ h live. refl)
        (slice_index s.next) stored.sound.live_next stored.sound.prev-next stored.sound.next-prev last_live)
        vertex_same face_same

  -- the last edge is dropped
  module _ (same : d ≡ n - 1) where
    none : (k : ℕ) → 0 < count_of k [] → Live S k
    none k found = absurd (omega (arith, found))

    edge_dropped-held : Holds (edge_dropped s d) (without_edge r d) (edge_taken_out (mesh_of s r) d)
    edge_dropped-held =
        let lengths = stored.lengths in
        let next_long = length-last_put 2 s.next (2 * d) in
        let stay : (anchors : List (Option ℕ)) → ((k : ℕ) → option_map half (slice_index_or anchors k None) ≡ slice_index_or anchors k None)
        → anchors ≡ map (option_map half) anchors =
        λ anchors kept. ext_get_or None anchors (map (option_map half) anchors) (sym (length-map anchors (option_map half)))
        (λ k below. sym (get_or-map (option_map half) anchors k None None below ∙ kept k)) in
        edge_out-held s r d stored out (last_put 2 s.next (2 * d)) (last_put 2 s.prev (2 * d)) s.vertex_anchors s.face_anchors
        (record {
          of_vertex_anchors = lengths.of_vertex_anchors;
          of_next = omega (arith, next_long, nexts, length-last_put 1 s.undirected_data d);
          of_prev = omega (arith, next_long, length-last_put 2 s.prev (2 * d), nexts, prevs);
          of_origin = omega (arith, next_long, lengths.of_origin, length-last_put 2 s.origin (2 * d));
          of_face = omega (arith, next_long, lengths.of_face, length-last_put 2 s.face (2 * d));
          of_directed_data = omega (arith, next_long, lengths.of_directed_data, length-last_put 2 s.directed_data (2 * d));
          of_face_anchors = lengths.of_face_anchors;
        })
        (links-mended S n d refl out.below not_out stored.sound (slice_index s.next) s.next nexts (λ h live. refl) [] none
        (λ h live last. absurd (not_out (slice_index s.next h) (stored.sound.live_next h live) (last ∙ sym same))))
        (links-mended S n d refl out.below not_out stored.sound (slice_index s.prev) s.prev prevs (λ h live. refl) [] none
        (λ h live last. absurd (not_out (slice_index s.prev h) (stored.sound.live_prev h live) (last ∙ sym same))))
        (stay s.vertex_anchors (λ k. anchor-kept (n - 1) d (slice_index_or s.vertex_anchors k None) (λ h some last.
        not_out h (anchor_starts stored k h some).0 (last ∙ sym same))))
        (stay s.face_anchors (λ k. anchor-kept (n - 1) d (slice_index_or s.face_anchors k None) (λ h some last.
        not_out h (face_anchor-lies stored k h some).0 (last ∙ sym same))))

  -- an edge that is given up can be taken out, and the lists that are left hold the mesh without it
  pub edge_out-can : CanLoseEdge s d
  edge_out-can = record {
    few = stored.few_edges;
    edge_in = out.below;
    normalized = λ inside. can_rename inside (2 * (n - 1)) (live_a inside);
    reversed = λ inside. can_rename inside (rev (2 * (n - 1))) (live_b inside);
  }

  pub edge_out-holds : Holds (edge_out s d) (without_edge r d) (edge_taken_out (mesh_of s r) d)
  edge_out-holds = elim (cases_eq d (n - 1)) [
    | inl last ↦ rw (edge_out-last s d last) (edge_dropped-held last)
    | inr inside ↦ rw (edge_out-moved s d inside) (edge_moved-held inside)
  ]
