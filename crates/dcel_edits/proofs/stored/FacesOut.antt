-- What the stored lists have to be once a face is taken out.
use Rattle.std.proofs.Common.{◌≡◌, ℕ, ◌-◌, length, slice_index, sym, ap, ◌∙◌, ◌≢◌, inl, inr, ◌<◌, slice_index_or, refl, Some, None, arith, List}
use Rattle.std.proofs.lemmas.Bool.{cases_eq, cases_lt}
use Rattle.dcel_store.specs.Lists.{Lists, LengthsAgree}
use Rattle.dcel_edits.specs.Stored.{IsStored, mesh_of, stored_map}
use Rattle.dcel_edits.specs.TakingOut.{CanLoseFace, CanWalk, face_dropped, face_out, word_of_anchor, word_renamed}
use Rattle.dcel_maps.specs.Maps.{Live}
use Rattle.dcel_maps.specs.Removals.{Removal, gives_up_edge}
use Rattle.dcel_maps.specs.Renumbering.{face_taken_out, last_put, moved, without_face}
use Rattle.dcel_maps.specs.Shapes.{IsLive, IsMesh, face_count, next_of, prev_of}
use Rattle.dcel_maps.specs.Walking.{IsOnFace, ListsOnce}
use Rattle.dcel_maps.specs.Words.{count_of}
use Rattle.dcel_edits.proofs.Dropping.{face_out-last, face_out-moved}
use Rattle.dcel_edits.proofs.Public.{mesh-is-mesh}
use Rattle.dcel_edits.proofs.Reading.{face_of-is, next_of-is, prev_of-is, half-below}
use Rattle.dcel_maps.proofs.Shown.{shown-same}
use Rattle.dcel_edits.proofs.stored.Held.{own_data}
use Rattle.dcel_edits.proofs.stored.Holding.{Holds, holds}
use Rattle.dcel_edits.proofs.stored.Rounds.{all_set-moves, anchor_comes_back, length-all_set, round-from}
use Rattle.dcel_maps.proofs.renumbering.Faces.{IsLastFaceOut, face-renamed}
use Rattle.dcel_maps.proofs.renumbering.LastPut.{length-last_put}
use Rattle.dcel_maps.proofs.renumbering.Meshes.{face_out-mesh}
use Rattle.dcel_maps.proofs.renumbering.Moves.{last_put-moved, moved-itself, moved-last}
use Rattle.dcel_maps.proofs.renumbering.Records.{without_face-loses}
use Rattle.dcel_maps.proofs.walks.Faces.{anchor-lies, anchor-lists}
use Rattle.dcel_maps.proofs.walks.Links.{links_lawful}
use Rattle.dcel_edits.proofs.stored.Renumbered.{renumbered_holds}

-- without the face, where each half edge lies on the face of this list, and live ones of the face that has moved name its new number
module _ {V DE UE F : Type 0} (s : Lists V DE UE F) (r : Removal) (d : ℕ) (stored : IsStored s r) (out : IsLastFaceOut (mesh_of s r).shape d)
    (on : List ℕ) (long : length on ≡ length s.face)
    (face : (h : ℕ) → Live (stored_map s r) h → slice_index on h ≡ moved (length s.face_data - 1) d (slice_index s.face h)) where
  abbrev face_left : Lists V DE UE F
  face_left = record (face_dropped s d) { face = on }

  mesh : IsMesh (mesh_of s r)
  mesh = mesh-is-mesh s r stored

  face_lengths : LengthsAgree face_left
  face_lengths =
      let lengths = stored.lengths in
      record {
        of_vertex_anchors = lengths.of_vertex_anchors;
        of_next = lengths.of_next;
        of_prev = lengths.of_prev;
        of_origin = lengths.of_origin;
        of_face = long ∙ lengths.of_face;
        of_directed_data = lengths.of_directed_data;
        of_face_anchors = omega (arith, lengths.of_face_anchors, length-last_put 1 s.face_anchors d, length-last_put 1 s.face_data d);
      }

  -- such lists hold the mesh without the face
  pub face_out-held : Holds face_left (without_face r d) (face_taken_out (mesh_of s r) d)
  face_out-held =
      let last = face_count (mesh_of s r).shape - 1 in
      renumbered_holds s face_left r (face_taken_out (mesh_of s r) d) (λ h. h) (λ h. h) (λ v. v) (λ v. v) (moved last d) (moved d last) stored (face-renamed (mesh_of s r).shape d mesh.sound out)
      record {
        lengths = face_lengths;
        next = λ h live. refl;
        prev = λ h live. refl;
        face = λ h live. face h live ∙ ap (λ k. moved (k - 1) d (slice_index s.face h)) (sym stored.stands.faces);
        shown_origins = shown-same (gives_up_edge r) (gives_up_edge (without_face r d)) (without_face-loses r d).others s.origin;
        vertex_anchors = refl;
        face_anchors = refl;
        has_data = own_data face_left;
      } (face_out-mesh (mesh_of s r) d mesh out)

module _ {V DE UE F : Type 0} (s : Lists V DE UE F) (r : Removal) (d : ℕ) (stored : IsStored s r) (out : IsLastFaceOut (mesh_of s r).shape d) where
  abbrev faces : ℕ
  faces = length s.face_data

  abbrev following : ℕ → ℕ
  following h = slice_index s.next h

  abbrev preceding : ℕ → ℕ
  preceding h = slice_index s.prev h

  held : Holds s r (mesh_of s r)
  held = holds stored refl

  is_mesh : IsMesh (mesh_of s r)
  is_mesh = mesh-is-mesh s r stored

  anchors : length s.face_anchors ≡ length s.face_data
  anchors = stored.lengths.of_face_anchors

  below : d < length s.face_data
  below = omega (arith, out.below, stored.stands.faces)

  -- the last face moves
  module _ (inside : d ≢ faces - 1) where
    last_below : faces - 1 < face_count (mesh_of s r).shape
    last_below = omega (arith, below, stored.stands.faces)

    anchor-live : (h : ℕ) → slice_index_or s.face_anchors (faces - 1) None ≡ Some h → IsLive (mesh_of s r).shape h
    anchor-live h some = (anchor-lies is_mesh (faces - 1) last_below h some).live

    anchor-moved : slice_index_or (last_put 1 s.face_anchors d) d None ≡ slice_index_or s.face_anchors (faces - 1) None
    anchor-moved =
        last_put-moved None s.face_anchors d d (omega (arith, below, anchors)) (omega (arith, below, anchors, inside))
        ∙ ap (λ k. slice_index_or s.face_anchors k None) (moved-last d (length s.face_anchors - 1) ∙ ap (λ k. k - 1) anchors)

    round-agrees : (h : ℕ) → IsLive (mesh_of s r).shape h → following h ≡ next_of (mesh_of s r).shape h
    round-agrees h live = sym (next_of-is stored h live)

    back-agrees : (h : ℕ) → IsLive (mesh_of s r).shape h → preceding h ≡ prev_of (mesh_of s r).shape h
    back-agrees h live = sym (prev_of-is stored h live)

    can_walk : CanWalk (face_dropped s d) d
    can_walk = record {
      anchor_in = omega (arith, below, anchors, inside, length-last_put 1 s.face_anchors d);
      walks =
          rw anchor-moved
          (anchor_comes_back held (links_lawful is_mesh.sound) following round-agrees preceding back-agrees (slice_index_or s.face_anchors (faces - 1) None) anchor-live);
    }

    -- the walk from its anchor lists what lies on it
    walked : ListsOnce (IsOnFace (mesh_of s r).shape (faces - 1)) (word_of_anchor (face_dropped s d) d)
    walked =
        rw (
          anchor-moved,
          round-from held (links_lawful is_mesh.sound) following round-agrees (slice_index_or s.face_anchors (faces - 1) None) anchor-live,
        ) (anchor-lists is_mesh (faces - 1) last_below)

    face-moved : (h : ℕ) → Live (stored_map s r) h
        → slice_index (word_renamed (face_dropped s d) d).face h ≡ moved (faces - 1) d (slice_index s.face h)
    face-moved h live =
        all_set-moves s.face (word_of_anchor (face_dropped s d) d) (faces - 1) d h
        (omega (arith, half-below stored h live, stored.lengths.of_face))
        (λ at. omega (arith, walked.each h (record { live = live; face = face_of-is stored h live ∙ at })))
        (λ other. elim (cases_lt 0 (count_of h (word_of_anchor (face_dropped s d) d))) [
          | inl found ↦ absurd (other (sym (face_of-is stored h live) ∙ (walked.no_other h found).face))
          | inr none ↦ omega (arith, none)
        ])

  -- and where it is the last one, none has to
  no-move : d ≡ faces - 1 → (h : ℕ) → Live (stored_map s r) h → slice_index s.face h ≡ moved (faces - 1) d (slice_index s.face h)
  no-move last h live = sym (moved-itself (faces - 1) d (slice_index s.face h) last)

  -- a face that is given up can be taken out, and the lists that are left hold the mesh without it
  pub face_out-can : CanLoseFace s d
  face_out-can = record { few = stored.few_faces; face_in = below; walks = can_walk }

  pub face_out-holds : Holds (face_out s d) (without_face r d) (face_taken_out (mesh_of s r) d)
  face_out-holds = elim (cases_eq d (faces - 1)) [
    | inl last ↦ rw (face_out-last s d last) (face_out-held s r d stored out s.face refl (no-move last))
    | inr inside ↦
        rw (face_out-moved s d inside)
        (face_out-held s r d stored out (word_renamed (face_dropped s d) d).face (length-all_set s.face (word_of_anchor (face_dropped s d) d) d) (face-moved inside))
  ]
