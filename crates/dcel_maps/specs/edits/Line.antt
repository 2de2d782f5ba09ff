-- Lines. Before the call there are m undirected edges; the new edge m has the half edges 2m and 2m + 1. Whatever an edit doesn't name stays as it was.
use Rattle.std.specs.Prelude.{ℕ, ◌+◌, ◌*◌, List, [], ◌∷◌, ◌++◌, slice_set, Some}
use Rattle.dcel_fixed.specs.HalfEdges.{rev}
use Rattle.dcel_maps.specs.Shapes.{Mesh, out_edge_of}
use Rattle.dcel_maps.specs.Words.{with_spur}

module _ {V DE UE F : Type 0} where
  -- `extend_line`: with out the out edge of `end` and in the other half of it, (.. in, out ..) becomes
  -- (.. in, 2m + 1, 2m, out ..), and 2m leads from `tip` to `end`
  abbrev pub line_extended : Mesh V DE UE F → ℕ → ℕ → List DE → List UE → Mesh V DE UE F
  line_extended m end tip halves edges =
      let n = 2 * m.shape.edges in
      record m {
        shape = record m.shape {
          edges = m.shape.edges + 1;
          words = with_spur m.shape.words (rev (out_edge_of m end)) (n + 1) n;
          origins = m.shape.origins ++ tip ∷ end ∷ [];
        };
        vertex_anchors = slice_set m.vertex_anchors tip (Some n);
        directed_data = m.directed_data ++ halves;
        undirected_data = m.undirected_data ++ edges;
      }
