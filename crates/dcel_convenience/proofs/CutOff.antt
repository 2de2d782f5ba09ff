-- A vertex cut off the border: what its removal leaves.
use Rattle.std.proofs.Common.{◌≡◌, ◌∙◌, inr, refl, ℕ, ◌-◌, ◌/◌, ◌==◌, List, Option, Some, None, cond, slice_get, sym, ap, subst}
use Rattle.dcel_convenience.specs.Anywhere.{without_strip}
use Rattle.dcel_convenience.specs.Simple.{IsSimple}
use Rattle.dcel_convenience.proofs.StaysSimple.{renamed_simple}
use Rattle.dcel_fixed.proofs.Halves.{rev-half}
use Rattle.dcel_fixed.specs.HalfEdges.{rev}
use Rattle.dcel_maps.specs.Conditions.{CanSwapRemove}
use Rattle.dcel_maps.specs.Removals.{Closed, Removal, gives_up_edge, opened}
use Rattle.dcel_maps.specs.Renumbering.{cleaned_up, vertex_taken_out}
use Rattle.dcel_maps.specs.Shapes.{IsLive, IsMesh, Mesh, end_of, origin_of}
use Rattle.dcel_maps.specs.Strips.{IsEdgeStrip, IsStripAround, strip_of}
use Rattle.dcel_maps.specs.edits.Strip.{strip_cut, strip_edges, strip_faces, strip_given_up, strip_half}
use Rattle.dcel_maps.proofs.Liveness.{closed-live, is_live-parts}
use Rattle.dcel_maps.proofs.Shown.{slice_index-shown_live}
use Rattle.dcel_maps.proofs.removal.StripItems.{half-is, strip-is}
use Rattle.dcel_maps.proofs.removal.StripMeshes.{strip_cut-mesh}
use Rattle.dcel_maps.proofs.renumbering.Cleanup.{cleaned_up-mesh, cleaned_up-renamed}
use Rattle.dcel_maps.proofs.renumbering.Vertices.{can_swap_remove-out, vertex-renamed}
use Rattle.spade_dcel.specs.Corners.{corner_of}

module _ {V DE UE F : Type 0} where
  -- the strip of a half edge that is lent, in the mesh that is given
  pub strip_told : (m lent : Mesh V DE UE F) (h k : ℕ) (list : List ℕ) → list ≡ strip_of lent.shape k → lent ≡ m → k ≡ h → list ≡ strip_of m.shape h
  strip_told m lent h k list is mesh number = is ∙ ap (λ (x : Mesh V DE UE F). strip_of x.shape k) mesh ∙ ap (strip_of m.shape) number

  -- what is given up of a simple mesh leaves a simple one
  pub given_up_simple : (m : Mesh V DE UE F) → m.shape.removal ≡ Closed → (r : Removal) (list : List ℕ) → IsSimple m.shape → IsSimple (strip_given_up m r list).shape
  given_up_simple m closed r list simple h k h_live k_live start end =
      let s = m.shape in
      let parts = λ (x : ℕ) (live : IsLive (strip_given_up m r list).shape x). is_live-parts (gives_up_edge r) s.edges (x / 2) live in
      let stood : (x : ℕ) → IsLive (strip_given_up m r list).shape x → IsLive s x = λ x live. closed-live s closed (x / 2) (parts x live).0 in
      let same : (x : ℕ) → IsLive (strip_given_up m r list).shape x → origin_of (strip_given_up m r list).shape x ≡ origin_of s x =
      λ x live. slice_index-shown_live (gives_up_edge r) s.origins x (parts x live).1 in
      let same_end : (x : ℕ) → IsLive (strip_given_up m r list).shape x → end_of (strip_given_up m r list).shape x ≡ end_of s x =
      λ x live. slice_index-shown_live (gives_up_edge r) s.origins (rev x) (ap (gives_up_edge r) (rev-half x) ∙ (parts x live).1) in
      simple h k (stood h h_live) (stood k k_live) (sym (same h h_live) ∙ start ∙ same k k_live) (sym (same_end h h_live) ∙ end ∙ same_end k k_live)

  module _ (old : Mesh V DE UE F) (mesh : IsMesh old) (v h : ℕ) (around : IsStripAround old.shape v h) (list : List ℕ) (are : list ≡ strip_of old.shape h) where
    pub cut_strip : IsEdgeStrip old.shape list
    cut_strip = record { vertex = v; half = h; around = around; is = are }

    corner : corner_of old.shape list ≡ v
    corner =
        let s = old.shape in
        let half : strip_half s list ≡ h =
        ap (strip_half s) (are ∙ strip-is s mesh.sound mesh.sphere v h around) ∙ half-is s mesh.sound mesh.sphere v h around in
        ap (origin_of s) half ∙ around.out.start

    pub cut_datum : (taken : V) → slice_get old.vertex_data (corner_of old.shape list) ≡ Some taken → slice_get old.vertex_data v ≡ Some taken
    cut_datum taken = subst (λ (x : ℕ). slice_get old.vertex_data x ≡ Some taken) corner

    pub cut_moved : (swapped : Option ℕ) → swapped ≡ cond (corner_of old.shape list == old.shape.vertices - 1) None (Some (old.shape.vertices - 1))
        → swapped ≡ cond (v == old.shape.vertices - 1) None (Some (old.shape.vertices - 1))
    cut_moved swapped = subst (λ (x : ℕ). swapped ≡ cond (x == old.shape.vertices - 1) None (Some (old.shape.vertices - 1))) corner

    pub cut_is : (new : Mesh V DE UE F) → new ≡ vertex_taken_out (cleaned_up (strip_cut old list)) (corner_of old.shape list) → new ≡ without_strip old v h
    cut_is new out =
        out ∙ ap (vertex_taken_out (cleaned_up (strip_cut old list))) corner
        ∙ ap (λ (l : List ℕ). vertex_taken_out (cleaned_up (strip_cut old l)) v) are

    -- what is left of a simple mesh is simple
    pub cut_simple : (new : Mesh V DE UE F) → new ≡ vertex_taken_out (cleaned_up (strip_cut old list)) (corner_of old.shape list) → old.shape.removal ≡ Closed → IsSimple old.shape
        → IsSimple new.shape
    cut_simple new out closed simple =
        let cut : Mesh V DE UE F = strip_cut old list in
        let clean : Mesh V DE UE F = cleaned_up cut in
        let cut_mesh : IsMesh cut = strip_cut-mesh old list mesh closed cut_strip in
        let clean_mesh : IsMesh clean = cleaned_up-mesh cut cut_mesh in
        let can : CanSwapRemove clean.shape (corner_of old.shape list) = inr refl in
        let given : IsSimple cut.shape =
        given_up_simple old closed (opened (strip_edges old.shape list) (strip_faces old.shape list) (origin_of old.shape (strip_half old.shape list))) list simple in
        let tidy : IsSimple clean.shape = renamed_simple cut.shape clean.shape _ _ _ _ _ _ (cleaned_up-renamed cut cut_mesh) given in
        let gone : IsSimple (vertex_taken_out clean (corner_of old.shape list)).shape =
        renamed_simple clean.shape (vertex_taken_out clean (corner_of old.shape list)).shape _ _ _ _ _ _
        (vertex-renamed clean.shape (corner_of old.shape list) clean_mesh.sound (can_swap_remove-out clean clean_mesh (corner_of old.shape list) can)) tidy in
        subst (λ (m : Mesh V DE UE F). IsSimple m.shape) (sym out) gone
