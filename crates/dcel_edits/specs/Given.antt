-- What writing given edges, faces and anchors leaves in the stored lists.
use Rattle.std.specs.Prelude.{◌≡◌, ℕ, ◌+◌, ◌-◌, ◌*◌, ◌<◌, List, [], ◌∷◌, ◌++◌, length, replicate, slice_index, slice_set, Option, Some, None}
use Rattle.dcel_store.specs.EdgeLists.{edges_data, halves_data}
use Rattle.dcel_store.specs.Lists.{Lists}
use Rattle.dcel_store.specs.declared.EdgeData.{EdgeData}

-- each number of the list is below the bound
abbrev pub AreBelow : ℕ → List ℕ → Type 0
AreBelow bound list = (h : ℕ) → h < length list → slice_index list h < bound

-- each list has two items for each edge
pub record AreLists (next prev origin face : List ℕ) (edges : ℕ) : Type 0 where
  pub nexts : length next ≡ 2 * edges
  pub prevs : length prev ≡ 2 * edges
  pub origins : length origin ≡ 2 * edges
  pub sides : length face ≡ 2 * edges

-- each item of a list is anchored at its half edge, from h on, one after another
abbrev pub anchored_from : ℕ → List ℕ → List (Option ℕ) → List (Option ℕ)
anchored_from h [] anchors = anchors
anchored_from h (x ∷ rest) anchors = anchored_from (h + 1) rest (slice_set anchors x (Some h))

-- each of so many items anchored at the last half edge that the list labels with it
abbrev pub last_anchors : List ℕ → ℕ → List (Option ℕ)
last_anchors labels items = anchored_from 0 labels (replicate items None)

module _ {V DE UE F : Type 0} where
  -- more edges
  abbrev pub edges_stored : Lists V DE UE F → List ℕ → List ℕ → List ℕ → List ℕ → List (EdgeData DE UE) → Lists V DE UE F
  edges_stored s next prev origin face edges = record s {
    next = s.next ++ next;
    prev = s.prev ++ prev;
    origin = s.origin ++ origin;
    face = s.face ++ face;
    directed_data = s.directed_data ++ halves_data edges;
    undirected_data = s.undirected_data ++ edges_data edges;
    edge_room = s.edge_room - length edges;
  }

  -- more faces, without anchors
  abbrev pub faces_stored : Lists V DE UE F → List F → Lists V DE UE F
  faces_stored s faces = record s {
    face_data = s.face_data ++ faces;
    face_anchors = s.face_anchors ++ replicate (length faces) None;
    face_room = s.face_room - length faces;
  }

  -- vertices and faces anchored
  abbrev pub vertices_anchored : Lists V DE UE F → List ℕ → Lists V DE UE F
  vertices_anchored s origin = record s { vertex_anchors = anchored_from 0 origin s.vertex_anchors }

  abbrev pub faces_anchored : Lists V DE UE F → List ℕ → Lists V DE UE F
  faces_anchored s face = record s { face_anchors = anchored_from 0 face s.face_anchors }

  -- all that is given, with these anchors of vertices and of faces, in an empty store
  abbrev pub mesh_stored : Lists V DE UE F → List ℕ → List ℕ → List ℕ → List ℕ → List (Option ℕ) → List (Option ℕ)
      → List V → List (EdgeData DE UE) → List F → Lists V DE UE F
  mesh_stored s next prev origin face vertex_anchors face_anchors vertices edges faces = record {
    vertex_data = vertices;
    vertex_anchors = vertex_anchors;
    next = next;
    prev = prev;
    origin = origin;
    face = face;
    directed_data = halves_data edges;
    undirected_data = edges_data edges;
    face_data = faces;
    face_anchors = face_anchors;
    vertex_room = s.vertex_room - length vertices;
    edge_room = s.edge_room - length edges;
    face_room = s.face_room - length faces;
  }
