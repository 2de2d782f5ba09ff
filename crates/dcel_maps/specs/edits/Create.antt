-- A new mesh, its vertices and its first edge. Whatever an edit doesn't name stays as it was.
use Rattle.std.specs.Prelude.{◌≡◌, ℕ, ◌+◌, List, [], ◌∷◌, ◌++◌, length, replicate, slice_set, Some, None}
use Rattle.dcel_maps.specs.Removals.{Closed}
use Rattle.dcel_maps.specs.Shapes.{Mesh}

module _ {V DE UE F : Type 0} where
  -- the outer face alone, with its datum in a list
  abbrev pub outer_with : List F → Mesh V DE UE F
  outer_with faces = record {
    shape = record { vertices = 0; edges = 0; words = [] ∷ []; origins = []; removal = Closed };
    vertex_anchors = [];
    face_anchors = None ∷ [];
    vertex_data = [];
    directed_data = [];
    undirected_data = [];
    face_data = faces;
  }

  -- `new`: the outer face alone
  abbrev pub outer_alone : F → Mesh V DE UE F
  outer_alone datum = outer_with (datum ∷ [])

  -- a mesh that is new, with a default datum for its outer face
  pub record IsNew (is_face : F → Type 0) (new : Mesh V DE UE F) : Type 0 where
    pub datum : F
    pub default : is_face datum
    pub is : new ≡ outer_alone datum

  -- `append_unconnected_vertex`: one more vertex, last, without an anchor
  abbrev pub vertex_appended : Mesh V DE UE F → V → Mesh V DE UE F
  vertex_appended m datum = record m {
    shape = record m.shape { vertices = m.shape.vertices + 1 };
    vertex_anchors = m.vertex_anchors ++ None ∷ [];
    vertex_data = m.vertex_data ++ datum ∷ [];
  }

  -- `setup_initial_two_vertices`: in a mesh without edges, edge 0 from a to b; the outer word is (0, 1)
  abbrev pub first_edge_added : Mesh V DE UE F → ℕ → ℕ → List DE → List UE → Mesh V DE UE F
  first_edge_added m a b halves edges = record m {
    shape = record m.shape {
      edges = 1;
      words = slice_set m.shape.words 0 (0 ∷ 1 ∷ []);
      origins = a ∷ b ∷ [];
    };
    vertex_anchors = slice_set (slice_set m.vertex_anchors a (Some 0)) b (Some 1);
    face_anchors = slice_set m.face_anchors 0 (Some 0);
    directed_data = halves;
    undirected_data = edges;
  }

  -- `new_with_fixed_vertices`: these vertices, and edge 0 from a to b, on the outer face
  abbrev pub first_edge_alone : List V → ℕ → ℕ → List DE → List UE → List F → Mesh V DE UE F
  first_edge_alone vertices a b halves edges faces = record {
    shape = record {
      vertices = length vertices;
      edges = 1;
      words = (0 ∷ 1 ∷ []) ∷ [];
      origins = a ∷ b ∷ [];
      removal = Closed;
    };
    vertex_anchors = slice_set (slice_set (replicate (length vertices) None) a (Some 0)) b (Some 1);
    face_anchors = Some 0 ∷ [];
    vertex_data = vertices;
    directed_data = halves;
    undirected_data = edges;
    face_data = faces;
  }
