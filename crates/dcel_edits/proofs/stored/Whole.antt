-- Lists that hold a mesh hold what a call on the whole mesh leaves of it.
use Rattle.std.proofs.Common.{◌≡◌, ℕ, ◌+◌, ◌-◌, ◌<◌, List, [], ◌∷◌, None, length, take, refl, sym, subst, arith}
use Rattle.std.proofs.lemmas.Slice.Zip.{AllZip-long}
use Rattle.dcel_store.specs.Lists.{Lists, empty}
use Rattle.dcel_store.specs.Whole as lists
use Rattle.dcel_maps.specs.edits.Create.{outer_with}
use Rattle.dcel_maps.specs.edits.Whole as mesh
use Rattle.dcel_maps.specs.Removals.{Closed, Removal}
use Rattle.dcel_maps.specs.Shapes.{Mesh}
use Rattle.dcel_edits.specs.Stored.{IsStored, mesh_of}
use Rattle.dcel_edits.proofs.stored.Changes.{held_lists}
use Rattle.dcel_edits.proofs.stored.Creating.{new_holds}
use Rattle.dcel_edits.proofs.stored.Holding.{Holds, data_holds, with_rooms}

-- the first of some faces
first_holds : {V DE UE F : Type 0} (faces : List F) (i j k : ℕ) → 0 < length faces
    → Holds {V = V} {DE = DE} {UE = UE} (with_rooms (record empty { face_data = take 1 faces; face_anchors = None ∷ [] }) i j k) Closed (outer_with (take 1 faces))
first_holds [] i j k some = absurd (omega (arith, some))
first_holds (f ∷ faces) i j k some = new_holds f i j k

module _ {V DE UE F : Type 0} {s : Lists V DE UE F} {r : Removal} {m : Mesh V DE UE F} (held : Holds s r m) where
  -- other data in the same numbers, and other numbers of reserved places
  pub data_hold : {V' DE' UE' F' : Type 0} {vertices : List V'} {halves : List DE'} {edges : List UE'} {faces : List F'} {i j k : ℕ}
      → length vertices ≡ length m.vertex_data → length halves ≡ length m.directed_data → length edges ≡ length m.undirected_data
      → length faces ≡ length m.face_data
      → Holds (with_rooms (lists.with_data s vertices halves edges faces) i j k) r (mesh.with_data m vertices halves edges faces)
  data_hold {vertices = vertices} {halves = halves} {edges = edges} {faces = faces} {i = i} {j = j} {k = k} =
      subst
      (λ u. length vertices ≡ length u.vertex_data → length halves ≡ length u.directed_data → length edges ≡ length u.undirected_data
      → length faces ≡ length u.face_data
      → Holds (with_rooms (lists.with_data s vertices halves edges faces) i j k) r (mesh.with_data u vertices halves edges faces))
      held.is
      (λ v h e f. data_holds s vertices halves edges faces i j k (record { of_vertices = v; of_halves = h; of_edges = e; of_faces = f }) held.stored)

  -- the outer face alone
  pub clear_holds : Holds (lists.cleared s) Closed (mesh.cleared m)
  clear_holds =
      subst (λ faces. Holds (lists.cleared s) Closed (outer_with (take 1 faces))) (held_lists s r m held).face_data
      (first_holds s.face_data (s.vertex_room + length s.vertex_data) (s.edge_room + length s.undirected_data)
      (s.face_room + length s.face_data - 1) held.stored.some_face)

-- where a call on the lists s of the mesh m leaves t: with other data of the vertices, or of the edges
module _ {V DE UE F : Type 0} {s : Lists V DE UE F} {r : Removal} {m : Mesh V DE UE F} (held : Holds s r m) where
  own : Holds s r (mesh_of s r)
  own = record { stored = held.stored; is = refl }

  pub vertices_mapped : {V' : Type 0} {t : Lists V' DE UE F} → length t.vertex_data ≡ length s.vertex_data
      → t ≡ lists.with_vertex_data s t.vertex_data → Holds t r (mesh.with_vertex_data m t.vertex_data)
  vertices_mapped {t = t} long same =
      subst (λ u. Holds t r (mesh.with_vertex_data u t.vertex_data)) held.is
      (subst (λ u. Holds u r (mesh.with_vertex_data (mesh_of s r) t.vertex_data)) (sym same) (data_hold own long refl refl refl))

  pub edges_mapped : {UE' : Type 0} {t : Lists V DE UE' F} → length t.undirected_data ≡ length s.undirected_data
      → t ≡ lists.with_undirected_data s t.undirected_data → Holds t r (mesh.with_undirected_data m t.undirected_data)
  edges_mapped {t = t} long same =
      subst (λ u. Holds t r (mesh.with_undirected_data u t.undirected_data)) held.is
      (subst (λ u. Holds u r (mesh.with_undirected_data (mesh_of s r) t.undirected_data)) (sym same) (data_hold own refl refl long refl))

  -- or with clones
  pub cloned : {is_vertex : V → V → Type 0} {is_half : DE → DE → Type 0} {is_edge : UE → UE → Type 0} {is_face : F → F → Type 0} {t : Lists V DE UE F}
      → lists.AreClones is_vertex is_half is_edge is_face s t → IsStored t r × mesh.IsClone is_vertex is_half is_edge is_face m (mesh_of t r)
  cloned {is_vertex = is_vertex} {is_half = is_half} {is_edge = is_edge} {is_face = is_face} {t = t} clones =
      let copy : Holds t r (mesh.with_data (mesh_of s r) t.vertex_data t.directed_data t.undirected_data t.face_data) =
      subst (λ u. Holds u r (mesh.with_data (mesh_of s r) t.vertex_data t.directed_data t.undirected_data t.face_data)) (sym clones.same)
      (data_hold own
      (AllZip-long is_vertex s.vertex_data t.vertex_data clones.vertex_data)
      (AllZip-long is_half s.directed_data t.directed_data clones.directed_data)
      (AllZip-long is_edge s.undirected_data t.undirected_data clones.undirected_data)
      (AllZip-long is_face s.face_data t.face_data clones.face_data)) in (
        copy.stored,
        subst (λ u. mesh.IsClone is_vertex is_half is_edge is_face u (mesh_of t r)) held.is record {
          vertex_data = clones.vertex_data;
          directed_data = clones.directed_data;
          undirected_data = clones.undirected_data;
          face_data = clones.face_data;
          same = copy.is;
        },
      )
