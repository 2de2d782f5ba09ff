-- A vertex that is appended and taken out again leaves the mesh as it was.
use Rattle.std.proofs.Common.{◌≡◌, ◌∙◌, inl, ℕ, List, sym, ap, subst, arith}
use Rattle.dcel_maps.specs.Conditions.{CanSwapRemove}
use Rattle.dcel_maps.specs.edits.Create.{vertex_appended}
use Rattle.dcel_maps.specs.edits.DefaultData.{AddsEdgesAndFaces}
use Rattle.dcel_maps.specs.Removals.{Closed}
use Rattle.dcel_maps.specs.Renumbering.{vertex_taken_out}
use Rattle.dcel_maps.specs.Shapes.{IsMesh, Mesh, origin_of}
use Rattle.dcel_maps.proofs.Liveness.{closed-vertex_live, vertex_live-parts}
use Rattle.dcel_maps.proofs.renumbering.TakenBack.{appended-taken_out}

module _ {V DE UE F : Type 0} where
  -- the vertex that is appended has no edge, so it can be taken out
  pub can_take_back : (old mid same : Mesh V DE UE F) (datum : V) (v : ℕ) → IsMesh old → old.shape.removal ≡ Closed → mid ≡ vertex_appended old datum → v ≡ old.shape.vertices
      → same ≡ mid → CanSwapRemove same.shape v
  can_take_back old mid same datum v mesh closed is last stays =
      subst (λ (m : Mesh V DE UE F). CanSwapRemove m.shape v) (sym (stays ∙ is))
      (subst (λ (x : ℕ). CanSwapRemove (vertex_appended old datum).shape x) (sym last) (inl (
        closed,
        record {
          live = closed-vertex_live (vertex_appended old datum).shape closed old.shape.vertices (omega arith);
          bare = λ h live start.
              let below = (vertex_live-parts old.shape (origin_of old.shape h) (mesh.sound.starts_live h live)).0 in
              absurd (omega (arith, below, start));
        },
      )))

  pub taken_back : (old mid same new : Mesh V DE UE F) (datum : V) (v : ℕ) → IsMesh old → old.shape.removal ≡ Closed → mid ≡ vertex_appended old datum → v ≡ old.shape.vertices
      → same ≡ mid → new ≡ vertex_taken_out same v → new ≡ old
  taken_back old mid same new datum v mesh closed is last stays gone =
      gone ∙ ap (λ (m : Mesh V DE UE F). vertex_taken_out m v) (stays ∙ is) ∙ ap (λ (x : ℕ). vertex_taken_out (vertex_appended old datum) x) last
      ∙ appended-taken_out old datum mesh closed

  -- an edit of the mesh with the vertex, told of the mesh without
  pub put_edit : (edit : Mesh V DE UE F → ℕ → List DE → List UE → List F → Mesh V DE UE F) (is_half : DE → Type 0) (is_edge : UE → Type 0) (is_face : F → Type 0)
      (k j : ℕ) (old mid new : Mesh V DE UE F) (datum : V) (v : ℕ) → mid ≡ vertex_appended old datum → v ≡ old.shape.vertices
      → AddsEdgesAndFaces is_half is_edge is_face k j new (edit mid v) → AddsEdgesAndFaces is_half is_edge is_face k j new (edit (vertex_appended old datum) old.shape.vertices)
  put_edit edit is_half is_edge is_face k j old mid new datum v is last adds =
      subst (λ (x : ℕ). AddsEdgesAndFaces is_half is_edge is_face k j new (edit (vertex_appended old datum) x)) last
      (subst (λ (m : Mesh V DE UE F). AddsEdgesAndFaces is_half is_edge is_face k j new (edit m v)) is adds)
