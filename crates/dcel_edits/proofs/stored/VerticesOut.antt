-- What the stored lists have to be once a vertex is taken out.
use Rattle.std.proofs.Common.{◌≡◌, ℕ, ◌-◌, ◌/◌, ◌<◌, length, map, slice_index, sym, ap, ◌∙◌, arith, ◌≢◌, inl, inr, true, slice_index_or, refl, None, List}
use Rattle.std.proofs.lemmas.Bool.{cases_eq, false_from_ne_true}
use Rattle.std.proofs.lemmas.List.{ext_get_or, get_or-map, length-map}
use Rattle.dcel_store.specs.Lists.{Lists, LengthsAgree}
use Rattle.dcel_edits.specs.Rename.{CanTurn, turn_by, turn_of, turn_renamed}
use Rattle.dcel_edits.specs.Stored.{IsStored, mesh_of, stored_map}
use Rattle.dcel_edits.specs.TakingOut.{CanLoseVertex, vertex_dropped, vertex_out}
use Rattle.dcel_maps.specs.Maps.{Live}
use Rattle.dcel_maps.specs.Removals.{Closed, Removal, gives_up_edge, gives_up_vertex, shown}
use Rattle.dcel_maps.specs.Renumbering.{last_put, moved, vertex_taken_out}
use Rattle.dcel_maps.specs.Shapes.{IsMesh, Mesh, vertex_is_live}
use Rattle.dcel_edits.proofs.Dropping.{vertex_out-last, vertex_out-moved}
use Rattle.dcel_edits.proofs.Public.{mesh-is-mesh}
use Rattle.dcel_edits.proofs.Reading.{half-live, half-below, origin_of-is}
use Rattle.dcel_maps.proofs.Shown.{shown-none}
use Rattle.dcel_edits.proofs.stored.Held.{own_data}
use Rattle.dcel_edits.proofs.stored.Holding.{Holds, holds}
use Rattle.dcel_edits.proofs.stored.Renaming.{halves_whole, in_turn, not_in_turn, turn_comes_back}
use Rattle.dcel_edits.proofs.stored.Rounds.{all_set-moves, length-all_set}
use Rattle.dcel_maps.proofs.Liveness.{gives_up_edge-closed, is_live-from}
use Rattle.dcel_maps.proofs.renumbering.LastPut.{length-last_put}
use Rattle.dcel_maps.proofs.renumbering.Meshes.{vertex_out-mesh}
use Rattle.dcel_maps.proofs.renumbering.Moves.{last_put-moved, moved-itself, moved-last}
use Rattle.dcel_maps.proofs.renumbering.Vertices.{IsOnlyOut, vertex-renamed}
use Rattle.dcel_edits.proofs.stored.Renumbered.{renumbered_holds}

-- without the vertex, and with these origins, where the half edges that start at the vertex that has moved name its new number
module _ {V DE UE F : Type 0} (s : Lists V DE UE F) (r : Removal) (d : ℕ) (stored : IsStored s r) (out : IsOnlyOut (mesh_of s r).shape d)
    (origins : List ℕ) (long : length origins ≡ length s.origin)
    (origin : (h : ℕ) → Live (stored_map s r) h → slice_index origins h ≡ moved (length s.vertex_data - 1) d (slice_index s.origin h)) where
  abbrev m : Mesh V DE UE F
  m = mesh_of s r

  abbrev n : Mesh V DE UE F
  n = vertex_taken_out m d

  abbrev moves : ℕ → ℕ
  moves = moved (length s.vertex_data - 1) d

  abbrev back : ℕ → ℕ
  back = moved d (length s.vertex_data - 1)

  abbrev vertex_left : Lists V DE UE F
  vertex_left = record (vertex_dropped s d) { origin = origins }

  mesh : IsMesh m
  mesh = mesh-is-mesh s r stored

  vertex_lengths : LengthsAgree vertex_left
  vertex_lengths =
      let lengths = stored.lengths in
      record {
        of_vertex_anchors = omega (arith, lengths.of_vertex_anchors, length-last_put 1 s.vertex_anchors d, length-last_put 1 s.vertex_data d);
        of_next = lengths.of_next;
        of_prev = lengths.of_prev;
        of_origin = long ∙ lengths.of_origin;
        of_face = lengths.of_face;
        of_directed_data = lengths.of_directed_data;
        of_face_anchors = lengths.of_face_anchors;
      }

  -- each half edge is live
  all_moved : origins ≡ map moves s.origin
  all_moved =
      let old = stored.lengths.of_origin in
      ext_get_or 0 origins (map moves s.origin) (omega (arith, long, length-map s.origin moves)) (λ i within.
      let below : i < length s.next = omega (arith, within, long, old) in
      origin i (half-live stored i below (out.no_edge (i / 2)))
      ∙ sym (get_or-map moves s.origin i 0 0 (omega (arith, below, old))))

  origins_shown : shown (gives_up_edge Closed) origins ≡ n.shape.origins
  origins_shown =
      shown-none (gives_up_edge Closed) gives_up_edge-closed origins ∙ all_moved
      ∙ ap (map moves) (sym (shown-none (gives_up_edge r) out.no_edge s.origin))

  -- such lists hold the mesh without the vertex
  pub vertex_out-held : Holds vertex_left Closed n
  vertex_out-held =
      renumbered_holds s vertex_left r n (λ h. h) (λ h. h) moves back (λ g. g) (λ g. g) stored (vertex-renamed m.shape d mesh.sound out)
      record {
        lengths = vertex_lengths;
        next = λ h live. refl;
        prev = λ h live. refl;
        face = λ h live. refl;
        shown_origins = origins_shown;
        vertex_anchors = refl;
        face_anchors = refl;
        has_data = own_data vertex_left;
      } (vertex_out-mesh m d mesh out)

module _ {V DE UE F : Type 0} (s : Lists V DE UE F) (r : Removal) (d : ℕ) (stored : IsStored s r) (out : IsOnlyOut (mesh_of s r).shape d) where
  abbrev vertices : ℕ
  vertices = length s.vertex_data

  held : Holds s r (mesh_of s r)
  held = holds stored refl

  anchors : length s.vertex_anchors ≡ length s.vertex_data
  anchors = stored.lengths.of_vertex_anchors

  -- the last vertex moves
  module _ (inside : d ≢ vertices - 1) where
    last_live : vertex_is_live (mesh_of s r).shape (vertices - 1) ≡ true
    last_live =
        is_live-from (gives_up_vertex r) vertices (vertices - 1) (omega (arith, out.below))
        (false_from_ne_true (gives_up_vertex r (vertices - 1)) (λ gone. inside (sym (out.no_vertex (vertices - 1) gone))))

    anchor-moved : slice_index_or (last_put 1 s.vertex_anchors d) d None ≡ slice_index_or s.vertex_anchors (vertices - 1) None
    anchor-moved =
        last_put-moved None s.vertex_anchors d d (omega (arith, out.below, anchors)) (omega (arith, out.below, anchors, inside))
        ∙ ap (λ k. slice_index_or s.vertex_anchors k None) (moved-last d (length s.vertex_anchors - 1) ∙ ap (λ k. k - 1) anchors)

    same_turn : turn_of (vertex_dropped s d) d ≡ turn_of s (vertices - 1)
    same_turn = ap (turn_by s.prev (length s.next)) anchor-moved

    can_turn : CanTurn (vertex_dropped s d) d
    can_turn = record {
      anchor_in = omega (arith, out.below, anchors, inside, length-last_put 1 s.vertex_anchors d);
      whole = halves_whole held;
      turns = rw anchor-moved (turn_comes_back held (vertices - 1) last_live);
    }

    origin-moved : (h : ℕ) → Live (stored_map s r) h
        → slice_index (turn_renamed (vertex_dropped s d) d).origin h ≡ moved (vertices - 1) d (slice_index s.origin h)
    origin-moved h live =
        rw same_turn
        (all_set-moves s.origin (turn_of s (vertices - 1)) (vertices - 1) d h
        (omega (arith, half-below stored h live, stored.lengths.of_origin))
        (λ at. in_turn held (vertices - 1) last_live h live (origin_of-is s r h live ∙ at))
        (λ other. not_in_turn held (vertices - 1) last_live h (λ at. other (sym (origin_of-is s r h live) ∙ at))))

  -- and where it is the last one, none has to
  no-move : d ≡ vertices - 1 → (h : ℕ) → Live (stored_map s r) h → slice_index s.origin h ≡ moved (vertices - 1) d (slice_index s.origin h)
  no-move last h live = sym (moved-itself (vertices - 1) d (slice_index s.origin h) last)

  -- a vertex where no edge starts can be taken out, once nothing else is given up, and the lists that are left hold the mesh without it
  pub vertex_out-can : CanLoseVertex s d
  vertex_out-can = record { few = stored.few_vertices; vertex_in = out.below; turns = can_turn }

  pub vertex_out-holds : Holds (vertex_out s d) Closed (vertex_taken_out (mesh_of s r) d)
  vertex_out-holds = elim (cases_eq d (vertices - 1)) [
    | inl last ↦ rw (vertex_out-last s d last) (vertex_out-held s r d stored out s.origin refl (no-move last))
    | inr inside ↦
        rw (vertex_out-moved s d inside)
        (vertex_out-held s r d stored out (turn_renamed (vertex_dropped s d) d).origin (length-all_set s.origin (turn_of (vertex_dropped s d) d) d) (origin-moved inside))
  ]
