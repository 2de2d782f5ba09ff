-- Faces put beside an edge. Before the call there are m undirected edges; a new edge m has the half edges 2m and 2m + 1. Whatever an edit doesn't name stays as it was.
use Rattle.std.specs.Prelude.{ℕ, ◌+◌, ◌*◌, List, [], ◌∷◌, ◌++◌, slice_set, Some}
use Rattle.dcel_maps.specs.Cyclic.{from_least}
use Rattle.dcel_maps.specs.Shapes.{Mesh, next_of, face_of, origin_of, end_of}
use Rattle.dcel_maps.specs.Words.{become, word_of}

module _ {V DE UE F : Type 0} where
  -- `create_new_face_adjacent_to_edge`: with L faces and f that of e, e becomes (2m + 3, 2m + 1) in the word of f, and there is one more
  -- face, L with (e, 2m, 2m + 2); 2m + 1 and 2m + 2 start at `tip`
  abbrev pub face_put_beside : Mesh V DE UE F → ℕ → ℕ → List DE → List UE → List F → Mesh V DE UE F
  face_put_beside m e tip halves edges faces =
      let n = 2 * m.shape.edges in
      let f = face_of m.shape e in
      record m {
        shape = record m.shape {
          edges = m.shape.edges + 2;
          words = slice_set m.shape.words f (from_least (become e ((n + 3) ∷ (n + 1) ∷ []) (word_of m.shape.words f)))
              ++ (e ∷ n ∷ (n + 2) ∷ []) ∷ [];
          origins = m.shape.origins ++ end_of m.shape e ∷ tip ∷ tip ∷ origin_of m.shape e ∷ [];
        };
        vertex_anchors = slice_set m.vertex_anchors tip (Some (n + 2));
        face_anchors = slice_set m.face_anchors f (Some (n + 3)) ++ Some e ∷ [];
        directed_data = m.directed_data ++ halves;
        undirected_data = m.undirected_data ++ edges;
        face_data = m.face_data ++ faces;
      }

  -- `create_single_face_between_edge_and_next`: with L faces and x the next half edge after e, the two become 2m + 1 in the outer word,
  -- and there is one more face, L with (e, x, 2m)
  abbrev pub face_closed : Mesh V DE UE F → ℕ → List DE → List UE → List F → Mesh V DE UE F
  face_closed m e halves edges faces =
      let n = 2 * m.shape.edges in
      let x = next_of m.shape e in
      record m {
        shape = record m.shape {
          edges = m.shape.edges + 1;
          words = slice_set m.shape.words 0 (from_least (become x [] (become e ((n + 1) ∷ []) (word_of m.shape.words 0))))
              ++ from_least (e ∷ x ∷ n ∷ []) ∷ [];
          origins = m.shape.origins ++ end_of m.shape x ∷ origin_of m.shape e ∷ [];
        };
        face_anchors = slice_set m.face_anchors 0 (Some (n + 1)) ++ Some n ∷ [];
        directed_data = m.directed_data ++ halves;
        undirected_data = m.undirected_data ++ edges;
        face_data = m.face_data ++ faces;
      }
