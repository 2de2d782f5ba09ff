-- What is live stays when a vertex is removed from a degenerate mesh, under other numbers.
use Rattle.std.proofs.Common.{◌≡◌, ◌≢◌, inl, inr, ◌-◌, ◌<◌, ℕ, [], ◌∷◌, slice_index, refl, ap, ◌∙◌, eq-eqb}
use Rattle.std.proofs.lemmas.Bool.{ne_eqb}
use Rattle.dcel_maps.specs.Conditions.{CanSwapRemove}
use Rattle.dcel_maps.specs.Degenerate.{CanRemoveDegenerate, IsPath}
use Rattle.dcel_maps.specs.edits.Degenerate.{path_given_up, removed_degenerate}
use Rattle.dcel_maps.specs.Removals.{Cleaned, gives_up_vertex}
use Rattle.dcel_maps.specs.Renumbered.{AreNumbered, LeavesLive, new_half}
use Rattle.dcel_maps.specs.Renumbering.{cleaned_up, moved, new_number, renumbered, vertex_taken_out, with_removal}
use Rattle.dcel_maps.specs.Shapes.{IsMesh, Mesh}
use Rattle.dcel_maps.proofs.Liveness.{gives_up_vertex-closed, is_live-from}
use Rattle.dcel_maps.proofs.removal.DegenerateMeshes.{PathGone, alone, path_gone}
use Rattle.dcel_maps.proofs.renumbering.Cleanup.{cleaned_up-mesh}
use Rattle.dcel_maps.proofs.renumbering.Meshes.{anchor-same}
use Rattle.dcel_maps.proofs.renumbering.Numbers.{new_number-is_place}
use Rattle.dcel_maps.proofs.renumbering.Renumbered.{leaves_live, numbered, others_leave_live, vertex_leaves_live}
use Rattle.dcel_maps.proofs.words.Counts.{count-other}

module _ {V DE UE F : Type 0} where
  -- what stays at cleanup stays when the vertex that was given up is taken out then
  both_leave_live : (m : Mesh V DE UE F) (v : ℕ) (half vertex : ℕ → ℕ)
      → LeavesLive m (cleaned_up m) half (λ w. w) (λ f. f) → LeavesLive (cleaned_up m) (vertex_taken_out (cleaned_up m) v) (λ h. h) vertex (λ f. f)
      → LeavesLive m (vertex_taken_out (cleaned_up m) v) half vertex (λ f. f)
  both_leave_live m v half vertex first second = record {
    half_edge = λ h live. second.half_edge (half h) (first.half_edge h live);
    turn = first.turn;
    origin = λ h live. second.origin (half h) (first.half_edge h live) ∙ ap vertex (first.origin h live);
    directed = first.directed;
    undirected = first.undirected;
    vertex_live = λ w live. second.vertex_live w (first.vertex_live w live);
    vertex_datum = λ w none live. second.vertex_datum w none (first.vertex_live w live) ∙ first.vertex_datum w none live;
    vertex_anchored = λ w live.
        second.vertex_anchored w (first.vertex_live w live) ∙ anchor-same _ ∙ first.vertex_anchored w live;
    face_live = λ f live. second.face_live f (first.face_live f live);
    word = first.word;
    face_datum = first.face_datum;
    face_anchored = first.face_anchored;
    outer = refl;
    each_half_edge = λ k live.
        let (middle, was, is) = second.each_half_edge k live in
        let (h, before, comes) = first.each_half_edge middle was in
        (h, before, comes ∙ is);
    each_vertex = λ w live.
        let (middle, was, is) = second.each_vertex w live in
        let (u, before, comes) = first.each_vertex middle was in
        (u, before, ap vertex comes ∙ is);
    each_face = λ g live.
        let (middle, was, is) = second.each_face g live in
        let (f, before, comes) = first.each_face middle was in
        (f, before, comes ∙ is);
  }

  module _ (m : Mesh V DE UE F) (v : ℕ) (mesh : IsMesh m) (can : CanRemoveDegenerate m.shape v) where
    path_of : m.shape.vertices ≢ 1 → IsPath m.shape
    path_of some = elim can.shape [ inl one ↦ absurd (some one) | inr path ↦ path ]

    gone : (some : m.shape.vertices ≢ 1) → PathGone m v mesh can (path_of some)
    gone some = path_gone m v mesh can (path_of some) some

    -- all that a path keeps
    pub path_leaves_live : m.shape.vertices ≢ 1
        → LeavesLive (path_given_up m v) (removed_degenerate m v) (new_half (path_given_up m v).shape) (moved (m.shape.vertices - 1) v) (λ f. f)
    unfolding new_number
    path_leaves_live some =
        let given = (gone some).given_up in
        rw (ne_eqb m.shape.vertices 1 some)
        (both_leave_live (path_given_up m v) v (new_half (path_given_up m v).shape) (moved (m.shape.vertices - 1) v)
        (leaves_live (path_given_up m v) given)
        (vertex_leaves_live (cleaned_up (path_given_up m v)) (cleaned_up-mesh (path_given_up m v) given) v refl))

    pub path_numbered : m.shape.vertices ≢ 1 → AreNumbered (path_given_up m v).shape
    path_numbered some = numbered (path_given_up m v) (gone some).given_up

    -- all that is left where there is no other vertex
    pub lone_leaves_live : m.shape.vertices ≡ 1
        → LeavesLive (with_removal m (Cleaned v)) (removed_degenerate m v) (λ h. h) (moved (m.shape.vertices - 1) v) (λ f. f)
    lone_leaves_live one =
        let unconnected : CanSwapRemove m.shape v = inl (
          can.closed,
          record {
            live = is_live-from (gives_up_vertex m.shape.removal) m.shape.vertices v can.within (ap (λ r. gives_up_vertex r v) can.closed ∙ gives_up_vertex-closed v);
            bare = (alone m v mesh can one).bare;
          },
        ) in
        rw (eq-eqb m.shape.vertices 1 one) (others_leave_live m mesh v unconnected)

    -- each vertex that stays is at the place where its old number stands
    pub left_placed : (w : ℕ) → w < m.shape.vertices → w ≢ v → slice_index (renumbered m.shape.vertices (v ∷ [])) (moved (m.shape.vertices - 1) v w) ≡ w
    unfolding new_number
    left_placed w below other = new_number-is_place m.shape.vertices (v ∷ []) (can.within, tt) w below (count-other w v [] other)
