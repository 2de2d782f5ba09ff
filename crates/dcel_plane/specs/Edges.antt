-- Edges of the triangles that an edit makes or changes: an edge that breaks Delaunay's condition afterwards, and didn't before, is one of
-- these. A new edge has the number of edges before the call, or one or two more.
use Rattle.std.specs.Prelude.{ℕ, ◌+◌, ◌*◌, ◌/◌, List, [], ◌∷◌}
use Rattle.dcel_maps.specs.Around.{around}
use Rattle.dcel_maps.specs.Shapes.{Mesh, Shape, adjacent_edge_of, next_of, prev_of}

-- `insert_into_triangle`: the three sides of the triangle
abbrev pub edges_inserted : {V DE UE F : Type 0} → Mesh V DE UE F → ℕ → List ℕ
edges_inserted m f =
    let a = adjacent_edge_of m f in
    a / 2 ∷ next_of m.shape a / 2 ∷ prev_of m.shape a / 2 ∷ []

-- `split_edge`: the other sides of both triangles, the edge, its new half and the edges from the vertex to both corners
abbrev pub edges_split : Shape → ℕ → List ℕ
edges_split s e =
    let near = around s e in
    let l = s.edges in
    near.after / 2 ∷ near.before / 2 ∷ near.t_after / 2 ∷ near.t_before / 2 ∷ e / 2 ∷ l ∷ (l + 1) ∷ (l + 2) ∷ []

-- `split_half_edge`: the same with one triangle
abbrev pub edges_half_split : Shape → ℕ → List ℕ
edges_half_split s e = next_of s e / 2 ∷ prev_of s e / 2 ∷ e / 2 ∷ s.edges ∷ (s.edges + 1) ∷ []

-- `create_new_face_adjacent_to_edge`: the edge, and the two from its ends to the vertex
abbrev pub edges_put_beside : Shape → ℕ → List ℕ
edges_put_beside s e = e / 2 ∷ s.edges ∷ (s.edges + 1) ∷ []

-- `create_single_face_between_edge_and_next`: the two edges, and the new one
abbrev pub edges_closed : Shape → ℕ → List ℕ
edges_closed s e = e / 2 ∷ next_of s e / 2 ∷ s.edges ∷ []

-- `flip_cw`: the other sides of both triangles, and the edge
abbrev pub edges_of_flip : Shape → ℕ → List ℕ
edges_of_flip s u =
    let e = 2 * u in
    let t = 2 * u + 1 in
    next_of s e / 2 ∷ prev_of s e / 2 ∷ next_of s t / 2 ∷ prev_of s t / 2 ∷ u ∷ []
