-- Edges with a vertex put into their middle. Before the call there are m undirected edges; a new edge m has the half edges 2m and
-- 2m + 1. Whatever an edit doesn't name stays as it was.
use Rattle.std.specs.Prelude.{ℕ, ◌+◌, List, [], ◌∷◌, ◌++◌, map, slice_set, Some}
use Rattle.dcel_fixed.specs.HalfEdges.{rev}
use Rattle.dcel_maps.specs.Cyclic.{from_least}
use Rattle.dcel_maps.specs.Shapes.{Mesh, origin_of}
use Rattle.dcel_maps.specs.Words.{become, word_of}
use Rattle.dcel_maps.specs.Around.{around}

-- a word where e becomes (e, n), and its other half t becomes (n + 1, t)
abbrev pub with_middle : ℕ → ℕ → List ℕ → List ℕ
with_middle e n w = from_least (become (rev e) ((n + 1) ∷ rev e ∷ []) (become e (e ∷ n ∷ []) w))

module _ {V DE UE F : Type 0} (m : Mesh V DE UE F) (e : ℕ) where
  open (around m.shape e) use {n, t, f, g, before as ep, after as en, t_before as tp, t_after as tn, end}

  -- `split_edge_when_all_vertices_on_line`: e becomes (e, 2m), and its other half t becomes (2m + 1, t); 2m leads from `middle` to
  -- where e ended, and t starts at `middle`
  abbrev pub edge_split_on_line : ℕ → List DE → List UE → Mesh V DE UE F
  edge_split_on_line middle halves edges = record m {
    shape = record m.shape {
      edges = m.shape.edges + 1;
      words = map (with_middle e n) m.shape.words;
      origins = slice_set m.shape.origins t middle ++ middle ∷ end ∷ [];
    };
    vertex_anchors = slice_set (slice_set m.vertex_anchors end (Some (n + 1))) middle (Some n);
    directed_data = m.directed_data ++ halves;
    undirected_data = m.undirected_data ++ edges;
  }

  -- `split_half_edge`: with L faces and (e, en, ep) the word of the face f, f becomes (e, 2m + 1, ep), and there is one more face, L with
  -- (en, 2m, 2m + 2); the other half t of e becomes (2m + 3, t) in its word; 2m + 1, 2m + 2 and t start at `middle`
  abbrev pub half_edge_split : ℕ → List DE → List UE → List F → Mesh V DE UE F
  half_edge_split middle halves edges faces = record m {
    shape = record m.shape {
      edges = m.shape.edges + 2;
      words =
          slice_set (slice_set m.shape.words f (from_least (e ∷ (n + 1) ∷ ep ∷ []))) g
          (from_least (become t ((n + 3) ∷ t ∷ []) (word_of m.shape.words g)))
          ++ (en ∷ n ∷ (n + 2) ∷ []) ∷ [];
      origins = slice_set m.shape.origins t middle ++ origin_of m.shape ep ∷ middle ∷ middle ∷ end ∷ [];
    };
    vertex_anchors = slice_set (slice_set m.vertex_anchors end (Some (n + 3))) middle (Some (n + 2));
    face_anchors = slice_set m.face_anchors f (Some e) ++ Some (n + 2) ∷ [];
    directed_data = m.directed_data ++ halves;
    undirected_data = m.undirected_data ++ edges;
    face_data = m.face_data ++ faces;
  }

  -- `split_edge`: with L faces, t the other half of e, and (e, en, ep) and (t, tn, tp) the words of the faces f and g, f becomes
  -- (e, 2m + 5, ep) and g (t, tn, 2m), and there are two more faces, L with (tp, 2m + 2, 2m + 1) and L + 1 with (en, 2m + 4, 2m + 3);
  -- t and the odd new half edges start at `middle`
  abbrev pub edge_split : ℕ → List DE → List UE → List F → Mesh V DE UE F
  edge_split middle halves edges faces = record m {
    shape = record m.shape {
      edges = m.shape.edges + 3;
      words = slice_set (slice_set m.shape.words f (from_least (e ∷ (n + 5) ∷ ep ∷ []))) g (from_least (t ∷ tn ∷ n ∷ []))
          ++ (tp ∷ (n + 2) ∷ (n + 1) ∷ []) ∷ (en ∷ (n + 4) ∷ (n + 3) ∷ []) ∷ [];
      origins = slice_set m.shape.origins t middle
          ++ origin_of m.shape tp ∷ middle ∷ end ∷ middle ∷ origin_of m.shape ep ∷ middle ∷ [];
    };
    vertex_anchors = slice_set (slice_set m.vertex_anchors end (Some (n + 2))) middle (Some t);
    face_anchors = slice_set (slice_set m.face_anchors f (Some e)) g (Some n) ++ Some (n + 2) ∷ Some (n + 4) ∷ [];
    directed_data = m.directed_data ++ halves;
    undirected_data = m.undirected_data ++ edges;
    face_data = m.face_data ++ faces;
  }
