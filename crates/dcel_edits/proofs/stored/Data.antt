-- One datum is replaced.
use Rattle.std.proofs.Common.{◌≡◌, ℕ, length-set, refl, subst}
use Rattle.std.specs.Prelude.{slice_set}
use Rattle.dcel_store.specs.Data.{with_vertex_datum, with_directed_datum, with_undirected_datum, with_face_datum}
use Rattle.dcel_store.specs.Lists.{Lists}
use Rattle.dcel_maps.specs.edits.Data.{vertex_updated, directed_edge_updated, undirected_edge_updated, face_updated}
use Rattle.dcel_maps.specs.Removals.{Removal}
use Rattle.dcel_maps.specs.Shapes.{Mesh}
use Rattle.dcel_edits.specs.Stored.{IsStored, mesh_of}
use Rattle.dcel_edits.proofs.stored.Holding.{Holds, data_holds}

module _ {V DE UE F : Type 0} {s : Lists V DE UE F} {r : Removal} {m : Mesh V DE UE F} (stored : IsStored s r) (is : mesh_of s r ≡ m) (number : ℕ) where
  pub vertex_updated_holds : (datum : V) → Holds (with_vertex_datum s number datum) r (vertex_updated m number datum)
  vertex_updated_holds datum =
      subst (λ (n : Mesh V DE UE F). Holds (with_vertex_datum s number datum) r (vertex_updated n number datum)) is
      (data_holds s (slice_set s.vertex_data number datum) s.directed_data s.undirected_data s.face_data _ _ _
      (record { of_vertices = length-set s.vertex_data number datum; of_halves = refl; of_edges = refl; of_faces = refl }) stored)

  pub directed_edge_updated_holds : (datum : DE) → Holds (with_directed_datum s number datum) r (directed_edge_updated m number datum)
  directed_edge_updated_holds datum =
      subst (λ (n : Mesh V DE UE F). Holds (with_directed_datum s number datum) r (directed_edge_updated n number datum)) is
      (data_holds s s.vertex_data (slice_set s.directed_data number datum) s.undirected_data s.face_data _ _ _
      (record { of_vertices = refl; of_halves = length-set s.directed_data number datum; of_edges = refl; of_faces = refl }) stored)

  pub undirected_edge_updated_holds : (datum : UE) → Holds (with_undirected_datum s number datum) r (undirected_edge_updated m number datum)
  undirected_edge_updated_holds datum =
      subst (λ (n : Mesh V DE UE F). Holds (with_undirected_datum s number datum) r (undirected_edge_updated n number datum)) is
      (data_holds s s.vertex_data s.directed_data (slice_set s.undirected_data number datum) s.face_data _ _ _
      (record { of_vertices = refl; of_halves = refl; of_edges = length-set s.undirected_data number datum; of_faces = refl }) stored)

  pub face_updated_holds : (datum : F) → Holds (with_face_datum s number datum) r (face_updated m number datum)
  face_updated_holds datum =
      subst (λ (n : Mesh V DE UE F). Holds (with_face_datum s number datum) r (face_updated n number datum)) is
      (data_holds s s.vertex_data s.directed_data s.undirected_data (slice_set s.face_data number datum) _ _ _
      (record { of_vertices = refl; of_halves = refl; of_edges = refl; of_faces = length-set s.face_data number datum }) stored)
