-- The datum that is returned of a vertex that is taken out.
use Rattle.std.proofs.Common.{◌≡◌, ◌∙◌, ℕ, ◌<◌, Some, ap, slice_get, slice_index_or, subst, sym}
use Rattle.std.proofs.lemmas.Option.{slice_get_read}
use Rattle.dcel_store.specs.Lists.{Lists}
use Rattle.dcel_edits.proofs.stored.Changes.{held_mesh}
use Rattle.dcel_edits.proofs.stored.Holding.{Holds}
use Rattle.dcel_maps.specs.Removals.{Removal}
use Rattle.dcel_maps.specs.Shapes.{IsMesh, Mesh}

module _ {V DE UE F : Type 0} where
  -- a vertex in range has its datum
  pub datum_read : (m : Mesh V DE UE F) (v : ℕ) (taken : V) → IsMesh m → v < m.shape.vertices → taken ≡ slice_index_or m.vertex_data v taken
      → (told : V) → told ≡ taken → slice_get m.vertex_data v ≡ Some told
  datum_read m v taken mesh below read told is =
      slice_get_read m.vertex_data m.shape.vertices v taken (sym mesh.sized.vertex_data) below read ∙ ap Some (sym is)

  -- also by the list that holds it
  pub datum_held : {s : Lists V DE UE F} {r : Removal} {m : Mesh V DE UE F} → Holds s r m → (v : ℕ) (taken : V) → v < m.shape.vertices
      → taken ≡ slice_index_or s.vertex_data v taken → (told : V) → told ≡ taken → slice_get m.vertex_data v ≡ Some told
  datum_held {s} {r} {m} held v taken below read =
      datum_read m v taken (held_mesh s r m held) below (subst (λ (n : Mesh V DE UE F). taken ≡ slice_index_or n.vertex_data v taken) held.is read)
