-- A corner cut off the outer face: what is left once its strip is cut off, cleaned up, and the vertex is taken out.
use Rattle.std.proofs.Common.{◌≡◌, ◌∙◌, inr, ℕ, zero, suc, ◌-◌, ◌==◌, List, [], ◌∷◌, ◌++◌, Option, Some, None, cond, replicate, slice_get, length, sym, ap, subst}
use Rattle.dcel_maps.specs.Conditions.{CanSwapRemove}
use Rattle.dcel_maps.specs.EditLists.{ComesBy, EditedBy, vertex_cut_off}
use Rattle.dcel_maps.specs.EditLists.EditKind.{numbers_changed, spur_dropped, words_joined}
use Rattle.dcel_maps.specs.Removals.{IsListed, Removal, ascending}
use Rattle.dcel_maps.specs.Renumbering.{cleaned, cleaned_up, vertex_taken_out}
use Rattle.dcel_maps.specs.Shapes.{IsMesh, Mesh, map_of}
use Rattle.dcel_maps.specs.edits.Strip.{strip_cut, strip_edges, strip_faces, strip_record}
use Rattle.dcel_maps.proofs.lists.Removing.{cleanup_listed, remove_listed}
use Rattle.dcel_maps.proofs.maps.Lists.{comes_then, renumbered_once}
use Rattle.spade_dcel.specs.Corners.{corner_of}
use Rattle.spade_dcel.proofs.Removed.{cleaned-count, cleaned-vertices}

-- a vertex cut off is renumbered once
renumbered_with : (k : ℕ) (S T : _) → ComesBy ((replicate k words_joined ++ spur_dropped ∷ numbers_changed ∷ []) ++ numbers_changed ∷ []) S T
    → ComesBy (replicate k words_joined ++ spur_dropped ∷ numbers_changed ∷ []) S T
renumbered_with zero S T (M, N, a, edit, rest) = (M, N, a, edit, renumbered_once [] N T rest)
renumbered_with (suc k) S T (M, N, a, edit, rest) = (M, N, a, edit, renumbered_with k N T rest)

module _ {V DE UE F : Type 0} (old cut : Mesh V DE UE F) (list : List ℕ) (cuts : cut ≡ strip_cut old list) where
  given_up : cut.shape.removal ≡ strip_record old.shape list
  given_up = ap (λ (m : Mesh V DE UE F). m.shape.removal) cuts

  pub cut_listed : (edges faces : List ℕ) → edges ≡ strip_edges old.shape list → faces ≡ strip_faces old.shape list → IsListed cut.shape.removal edges faces
  cut_listed edges faces edges_are faces_are =
      subst (λ (r : Removal). IsListed r edges faces) (sym given_up) (ap ascending edges_are, ap ascending faces_are)

  module _ (clean : Mesh V DE UE F) (cleans : clean ≡ cleaned_up cut) where
    pub cut_can_swap : (v : ℕ) → v ≡ corner_of old.shape list → CanSwapRemove clean.shape v
    cut_can_swap v is =
        subst (CanSwapRemove clean.shape) (sym is) (inr (ap (λ (m : Mesh V DE UE F). m.shape.removal) cleans ∙ ap cleaned given_up))

    pub cut_is : (v : ℕ) → v ≡ corner_of old.shape list → (new : Mesh V DE UE F) → new ≡ vertex_taken_out clean v
        → new ≡ vertex_taken_out (cleaned_up (strip_cut old list)) (corner_of old.shape list)
    cut_is v is new out =
        out ∙ ap (λ (m : Mesh V DE UE F). vertex_taken_out m v) (cleans ∙ ap cleaned_up cuts) ∙ ap (vertex_taken_out (cleaned_up (strip_cut old list))) is

    pub cut_datum : (v : ℕ) → v ≡ corner_of old.shape list → (taken : V) → slice_get clean.vertex_data v ≡ Some taken
        → slice_get old.vertex_data (corner_of old.shape list) ≡ Some taken
    cut_datum v is taken told =
        sym (ap (λ (xs : List V). slice_get xs v)
        (ap (λ (m : Mesh V DE UE F). m.vertex_data) cleans ∙ cleaned-vertices cut ∙ ap (λ (m : Mesh V DE UE F). m.vertex_data) cuts)
        ∙ ap (λ (x : ℕ). slice_get old.vertex_data x) is)
        ∙ told

    pub cut_moved : (v : ℕ) → v ≡ corner_of old.shape list → (swapped : Option ℕ) → swapped ≡ cond (v == clean.shape.vertices - 1) None (Some (clean.shape.vertices - 1))
        → swapped ≡ cond (corner_of old.shape list == old.shape.vertices - 1) None (Some (old.shape.vertices - 1))
    cut_moved v is swapped told =
        told
        ∙ ap (λ (n : ℕ). cond (v == n - 1) None (Some (n - 1)))
        (ap (λ (m : Mesh V DE UE F). m.shape.vertices) cleans ∙ cleaned-count cut ∙ ap (λ (m : Mesh V DE UE F). m.shape.vertices) cuts)
        ∙ ap (λ (x : ℕ). cond (x == old.shape.vertices - 1) None (Some (old.shape.vertices - 1))) is

    pub cut_comes : (v : ℕ) → v ≡ corner_of old.shape list → (new : Mesh V DE UE F) → new ≡ vertex_taken_out clean v → IsMesh cut → IsMesh clean
        → EditedBy (vertex_cut_off (length list)) old cut → EditedBy (vertex_cut_off (length list)) old new
    cut_comes v is new out cut_mesh clean_mesh comes =
        renumbered_with (length list - 1) (map_of old.shape) (map_of new.shape)
        (comes_then (vertex_cut_off (length list)) (numbers_changed ∷ []) (map_of old.shape) (map_of cut.shape) (map_of new.shape) comes
        (renumbered_once [] (map_of cut.shape) (map_of new.shape)
        (comes_then (numbers_changed ∷ []) (numbers_changed ∷ []) (map_of cut.shape) (map_of clean.shape) (map_of new.shape)
        (cleanup_listed cut cut_mesh clean cleans) (remove_listed clean clean_mesh new v out (cut_can_swap v is)))))
