-- New edges and faces in the stored lists: their data and places, whether there is room for them, and whether there are others.
use Rattle.std.specs.Prelude.{◌≡◌, ℕ, ◌+◌, ◌-◌, ◌≤◌, ◌^◌, List, ◌++◌, length}
use Rattle.dcel_store.specs.Lists.{Lists, HasPlaces, empty}

module _ {V DE UE F : Type 0} where
  -- nothing stored yet
  pub record IsEmpty (s : Lists V DE UE F) : Type 0 where
    pub is : s ≡ record empty { vertex_room = s.vertex_room; edge_room = s.edge_room; face_room = s.face_room }

  -- the lists with the data of k new edges, whose places are taken
  abbrev pub adding_edges : Lists V DE UE F → ℕ → List DE → List UE → Lists V DE UE F
  adding_edges s k halves edges = record s {
    directed_data = s.directed_data ++ halves;
    undirected_data = s.undirected_data ++ edges;
    edge_room = s.edge_room - k;
  }

  -- the same with l new faces
  abbrev pub adding : Lists V DE UE F → ℕ → ℕ → List DE → List UE → List F → Lists V DE UE F
  adding s k l halves edges faces = record (adding_edges s k halves edges) {
    face_data = s.face_data ++ faces;
    face_room = s.face_room - l;
  }

  -- so many edges and faces have places, and numbers in range
  pub record HasSpace (s : Lists V DE UE F) (edges faces : ℕ) : Type 0 where
    pub places : HasPlaces s 0 edges faces
    pub few_edges : length s.undirected_data + edges ≤ 2 ^ 31
    pub few_faces : length s.face_data + faces ≤ 2 ^ 32
