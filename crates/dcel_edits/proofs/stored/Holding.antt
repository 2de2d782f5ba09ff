-- Lists and a record that hold a mesh.
use Rattle.std.proofs.Common.{◌≡◌, ℕ, List, length, refl, sym, ◌∙◌, subst}
use Rattle.dcel_store.specs.Lists.{Lists}
use Rattle.dcel_store.specs.Whole as lists
use Rattle.dcel_maps.specs.Removals.{Removal}
use Rattle.dcel_maps.specs.edits.Whole as mesh
use Rattle.dcel_maps.specs.Shapes.{Mesh}
use Rattle.dcel_edits.specs.Stored.{IsStored, mesh_of, stored_map}

module _ {V DE UE F : Type 0} where
  -- the lists and the record keep the invariant, and stand for the mesh m
  pub record Holds (s : Lists V DE UE F) (r : Removal) (m : Mesh V DE UE F) : Type 0 where
    pub stored : IsStored s r
    pub is : mesh_of s r ≡ m

  pub holds : {s : Lists V DE UE F} {r : Removal} {m : Mesh V DE UE F} → IsStored s r → mesh_of s r ≡ m → Holds s r m
  holds stored is = record { stored = stored; is = is }

-- The lists with other data, as many of each kind, and other numbers of reserved places: what is true of the lists of a mesh speaks
-- of neither.
module _ {V DE UE F V' DE' UE' F' : Type 0} (s : Lists V DE UE F) (vertices : List V') (halves : List DE') (edges : List UE') (faces : List F') where
  pub record AsMany : Type 0 where
    pub of_vertices : length vertices ≡ length s.vertex_data
    pub of_halves : length halves ≡ length s.directed_data
    pub of_edges : length edges ≡ length s.undirected_data
    pub of_faces : length faces ≡ length s.face_data

  abbrev pub with_data : ℕ → ℕ → ℕ → Lists V' DE' UE' F'
  with_data i j k = record (lists.with_data s vertices halves edges faces) { vertex_room = i; edge_room = j; face_room = k }

  data_stored : {r : Removal} (i j k : ℕ) → AsMany → IsStored s r → IsStored (with_data i j k) r
  data_stored {r = r} i j k as_many h =
      let same : stored_map (with_data i j k) r ≡ stored_map s r = rw (as_many.of_vertices, as_many.of_edges, as_many.of_faces) refl in
      record {
        lengths = record {
          of_vertex_anchors = h.lengths.of_vertex_anchors ∙ sym as_many.of_vertices;
          of_next = rw as_many.of_edges h.lengths.of_next;
          of_prev = h.lengths.of_prev;
          of_origin = h.lengths.of_origin;
          of_face = h.lengths.of_face;
          of_directed_data = as_many.of_halves ∙ h.lengths.of_directed_data;
          of_face_anchors = h.lengths.of_face_anchors ∙ sym as_many.of_faces;
        };
        few_vertices = rw as_many.of_vertices h.few_vertices;
        few_edges = rw as_many.of_edges h.few_edges;
        few_faces = rw as_many.of_faces h.few_faces;
        some_face = rw as_many.of_faces h.some_face;
        within = rw (as_many.of_vertices, as_many.of_edges, as_many.of_faces) h.within;
        stands = rw same h.stands;
        sound = rw same h.sound;
        sphere = rw same h.sphere;
        vertex_anchored = λ v below. rw same (h.vertex_anchored v (rw as_many.of_vertices at below));
        face_anchored = λ f below. h.face_anchored f (rw as_many.of_faces at below);
        starts_live = λ e live. h.starts_live e (rw as_many.of_edges at live);
        bare = h.bare;
        inner = λ f inside below. h.inner f inside (rw as_many.of_faces at below);
        outer = λ e live. h.outer e (rw as_many.of_edges at live);
      }

  -- they stand for the mesh with these data
  pub data_holds : {r : Removal} (i j k : ℕ) → AsMany → IsStored s r → Holds (with_data i j k) r (mesh.with_data (mesh_of s r) vertices halves edges faces)
  data_holds i j k as_many h = record {
    stored = data_stored i j k as_many h;
    is = rw (as_many.of_vertices, as_many.of_edges) refl;
  }

module _ {V DE UE F : Type 0} where
  -- the lists with other numbers of reserved places
  abbrev pub with_rooms : Lists V DE UE F → ℕ → ℕ → ℕ → Lists V DE UE F
  with_rooms s i j k = record s { vertex_room = i; edge_room = j; face_room = k }

  pub reserved_holds : {s t : Lists V DE UE F} {r : Removal} {m : Mesh V DE UE F} → t ≡ with_rooms s t.vertex_room t.edge_room t.face_room
      → IsStored s r → mesh_of s r ≡ m → Holds t r m
  reserved_holds {s = s} {t = t} {r = r} {m = m} same h is =
      let kept = data_holds s s.vertex_data s.directed_data s.undirected_data s.face_data t.vertex_room t.edge_room t.face_room
      (record { of_vertices = refl; of_halves = refl; of_edges = refl; of_faces = refl }) h in
      subst (λ (u : Lists V DE UE F). Holds u r m) (sym same) record { stored = kept.stored; is = is }
