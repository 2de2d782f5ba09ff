-- Vertices under other numbers. Whatever an edit doesn't name stays as it was.
use Rattle.std.specs.Prelude.{ℕ, ◌/◌, ◌==◌, List, cond, map, swap}
use Rattle.std.specs.List.{enumerate_from}
use Rattle.dcel_maps.specs.Shapes.{Mesh, Shape, edge_is_live}

-- b in the place of a, and a in that of b
abbrev pub exchanged : ℕ → ℕ → ℕ → ℕ
exchanged a b v = cond (v == a) b (cond (v == b) a v)

-- the origins of a shape with other names, but for those of given-up half edges, which show as 0 whatever vertex 0 is called
abbrev pub renamed_origins : Shape → (ℕ → ℕ) → List ℕ
renamed_origins s rename =
    map (λ start. cond (edge_is_live s (start.0 / 2)) (rename start.1) start.1) (enumerate_from 0 s.origins)

module _ {V DE UE F : Type 0} where
  -- `swap_vertices`: what started at a starts at b, and the other way round; data and anchors are exchanged
  abbrev pub vertices_swapped : Mesh V DE UE F → ℕ → ℕ → Mesh V DE UE F
  vertices_swapped m a b = record m {
    shape = record m.shape { origins = renamed_origins m.shape (exchanged a b) };
    vertex_anchors = swap m.vertex_anchors a b;
    vertex_data = swap m.vertex_data a b;
  }
