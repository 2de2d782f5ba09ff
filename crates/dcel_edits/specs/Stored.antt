-- How the stored lists and the removal record stand for a mesh.
use Rattle.std.specs.Prelude.{◌≡◌, ◌≢◌, ℕ, ◌<◌, ◌≤◌, ◌^◌, true, false, List, length, slice_index, slice_index_or, None}
use Rattle.dcel_store.specs.Lists.{Lists, LengthsAgree}
use Rattle.dcel_maps.specs.Maps.{Map, Live, Starts}
use Rattle.dcel_maps.specs.theory.Sound.{Sound, Sphere}
use Rattle.dcel_maps.specs.Removals.{Removal, gives_up_vertex, gives_up_edge, gives_up_face, is_live, IsWithin, shown}
use Rattle.dcel_maps.specs.Shapes.{Mesh, AnchorsWord}
use Rattle.dcel_maps.specs.theory.Standing.{Stands}
use Rattle.dcel_maps.specs.Walks.{anchored_words}
use Rattle.dcel_maps.specs.Words.{word_of}

module _ {V DE UE F : Type 0} where
  -- the words that the stored `next` and the anchors of faces lead round
  abbrev pub stored_words : Lists V DE UE F → List (List ℕ)
  stored_words s = anchored_words (λ h. slice_index s.next h) (length s.next) s.face_anchors

  abbrev pub mesh_of : Lists V DE UE F → Removal → Mesh V DE UE F
  mesh_of s r = record {
    shape = record {
      vertices = length s.vertex_data;
      edges = length s.undirected_data;
      words = stored_words s;
      origins = shown (gives_up_edge r) s.origin;
      removal = r;
    };
    vertex_anchors = s.vertex_anchors;
    face_anchors = s.face_anchors;
    vertex_data = s.vertex_data;
    directed_data = s.directed_data;
    undirected_data = s.undirected_data;
    face_data = s.face_data;
  }

  -- the combinatorial map that the stored links are
  abbrev pub stored_map : Lists V DE UE F → Removal → Map
  stored_map s r = record {
    vertices = length s.vertex_data;
    edges = length s.undirected_data;
    faces = length s.face_data;
    edge = is_live (gives_up_edge r) (length s.undirected_data);
    next = λ h. slice_index s.next h;
    prev = λ h. slice_index s.prev h;
    origin = λ h. slice_index s.origin h;
    face = λ h. slice_index s.face h;
  }

  -- what is true of the lists and the record of every mesh
  pub record IsStored (s : Lists V DE UE F) (r : Removal) : Type 0 where
    pub lengths : LengthsAgree s
    pub few_vertices : length s.vertex_data ≤ 2 ^ 32
    pub few_edges : length s.undirected_data ≤ 2 ^ 31
    pub few_faces : length s.face_data ≤ 2 ^ 32
    pub some_face : 0 < length s.face_data
    pub within : IsWithin r (length s.vertex_data) (length s.undirected_data) (length s.face_data)
    pub stands : Stands (stored_map s r) (stored_words s)
    pub sound : Sound (stored_map s r)
    pub sphere : Sphere (stored_map s r)
    pub vertex_anchored : (v : ℕ) → v < length s.vertex_data → Starts (stored_map s r) v (slice_index_or s.vertex_anchors v None)
    pub face_anchored : (f : ℕ) → f < length s.face_data → AnchorsWord (word_of (stored_words s) f) (slice_index_or s.face_anchors f None)
    pub starts_live : (h : ℕ) → Live (stored_map s r) h → gives_up_vertex r (slice_index s.origin h) ≡ false
    pub bare : (f : ℕ) → gives_up_face r f ≡ true → slice_index_or s.face_anchors f None ≡ None
    pub inner : (f : ℕ) → 0 < f → f < length s.face_data → gives_up_face r f ≡ false → slice_index_or s.face_anchors f None ≢ None
    pub outer : (h : ℕ) → Live (stored_map s r) h → slice_index_or s.face_anchors 0 None ≢ None
