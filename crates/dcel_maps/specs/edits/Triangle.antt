-- Triangles. Before the call there are m undirected edges; a new edge m has the half edges 2m and 2m + 1. Whatever an edit doesn't name stays as it was.
use Rattle.std.specs.Prelude.{ℕ, ◌+◌, ◌*◌, List, [], ◌∷◌, ◌++◌, slice_set, Some}
use Rattle.dcel_maps.specs.Removals.{Closed}
use Rattle.dcel_maps.specs.Shapes.{Mesh, next_of, prev_of, origin_of, adjacent_edge_of}

module _ {V DE UE F : Type 0} where
  -- `new_triangle`: the vertices 0, 1, 2, with (0, 2, 4) round the outer face and (1, 5, 3) round face 1
  abbrev pub triangle_alone : V × V × V → List DE → List UE → List F → Mesh V DE UE F
  triangle_alone vertices halves edges faces = record {
    shape = record {
      vertices = 3;
      edges = 3;
      words = (0 ∷ 2 ∷ 4 ∷ []) ∷ (1 ∷ 5 ∷ 3 ∷ []) ∷ [];
      origins = 0 ∷ 1 ∷ 1 ∷ 2 ∷ 2 ∷ 0 ∷ [];
      removal = Closed;
    };
    vertex_anchors = Some 0 ∷ Some 2 ∷ Some 4 ∷ [];
    face_anchors = Some 0 ∷ Some 1 ∷ [];
    vertex_data = vertices.0 ∷ vertices.1 ∷ vertices.2 ∷ [];
    directed_data = halves;
    undirected_data = edges;
    face_data = faces;
  }

  -- `insert_into_triangle`: with L faces and (a, b, c) the word of f from its anchor on, f becomes (a, 2m, 2m + 5), and there are two
  -- more faces, L with (b, 2m + 2, 2m + 1) and L + 1 with (c, 2m + 4, 2m + 3); the odd new half edges start at v
  abbrev pub vertex_inserted : Mesh V DE UE F → ℕ → ℕ → List DE → List UE → List F → Mesh V DE UE F
  vertex_inserted m v f halves edges faces =
      let n = 2 * m.shape.edges in
      let a = adjacent_edge_of m f in
      let b = next_of m.shape a in
      let c = prev_of m.shape a in
      record m {
        shape = record m.shape {
          edges = m.shape.edges + 3;
          words = slice_set m.shape.words f (a ∷ n ∷ (n + 5) ∷ [])
              ++ (b ∷ (n + 2) ∷ (n + 1) ∷ []) ∷ (c ∷ (n + 4) ∷ (n + 3) ∷ []) ∷ [];
          origins = m.shape.origins
              ++ origin_of m.shape b ∷ v ∷ origin_of m.shape c ∷ v ∷ origin_of m.shape a ∷ v ∷ [];
        };
        vertex_anchors = slice_set m.vertex_anchors v (Some (n + 1));
        face_anchors = m.face_anchors ++ Some b ∷ Some c ∷ [];
        directed_data = m.directed_data ++ halves;
        undirected_data = m.undirected_data ++ edges;
        face_data = m.face_data ++ faces;
      }
