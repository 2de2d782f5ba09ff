-- What the definitions are checked against.
use Rattle.std.specs.Prelude.{◌≡◌, ℕ, List, [], ◌∷◌, map, reverse, Some, None}
use Rattle.dcel_maps.specs.edits.Create.{vertex_appended}
use Rattle.dcel_maps.specs.edits.Fill.{edges_at, faces_at, hole_filled, ring_remeshed}
use Rattle.dcel_maps.specs.edits.Split.{edge_split}
use Rattle.dcel_maps.specs.edits.Triangle.{triangle_alone, vertex_inserted}
use Rattle.dcel_maps.specs.Removals.{Closed, Isolated}
use Rattle.dcel_maps.specs.Renumbering.{renumbered}
use Rattle.dcel_maps.specs.Shapes.{Mesh, Shape, next_of}
use Rattle.dcel_maps.specs.Walking.{ccw_of, walk_of}

-- a triangle, and another of its own beside it: six vertices, six edges and four faces
abbrev pub two_triangles : Shape
two_triangles = record {
  vertices = 6;
  edges = 6;
  words = (0 ∷ 2 ∷ 4 ∷ []) ∷ (1 ∷ 5 ∷ 3 ∷ []) ∷ (6 ∷ 8 ∷ 10 ∷ []) ∷ (7 ∷ 11 ∷ 9 ∷ []) ∷ [];
  origins = 0 ∷ 1 ∷ 1 ∷ 2 ∷ 2 ∷ 0 ∷ 3 ∷ 4 ∷ 4 ∷ 5 ∷ 5 ∷ 3 ∷ [];
  removal = Closed;
}

-- each datum is its number: vertex 3 inside a triangle, and vertex 4 on the edge from there to vertex 0
abbrev pub inside_triangle : Mesh ℕ ℕ ℕ ℕ
inside_triangle =
    vertex_inserted
    (vertex_appended (triangle_alone (0, 1, 2) (0 ∷ 1 ∷ 2 ∷ 3 ∷ 4 ∷ 5 ∷ []) (0 ∷ 1 ∷ 2 ∷ []) (0 ∷ 1 ∷ [])) 3)
    3 1 (6 ∷ 7 ∷ 8 ∷ 9 ∷ 10 ∷ 11 ∷ []) (3 ∷ 4 ∷ 5 ∷ []) (2 ∷ 3 ∷ [])

abbrev pub on_edge : Mesh ℕ ℕ ℕ ℕ
on_edge = edge_split (vertex_appended inside_triangle 4) 6 4 (12 ∷ 13 ∷ 14 ∷ 15 ∷ 16 ∷ 17 ∷ []) (6 ∷ 7 ∷ 8 ∷ []) (4 ∷ 5 ∷ [])

-- a list read from its end is what comes after the half edges that turning from h leads through
abbrev pub IsRingFrom : Shape → List ℕ → ℕ → Type 0
IsRingFrom s border h = reverse border ≡ map (next_of s) (walk_of s (ccw_of s) h)

-- vertex 3 is given up: (1, 5, 3) is the new face 4
abbrev pub triangle_filled : Mesh ℕ ℕ ℕ ℕ
triangle_filled = record inside_triangle {
  shape = record {
    vertices = 4;
    edges = 6;
    words = (0 ∷ 2 ∷ 4 ∷ []) ∷ [] ∷ [] ∷ [] ∷ (1 ∷ 5 ∷ 3 ∷ []) ∷ [];
    origins = 0 ∷ 1 ∷ 1 ∷ 2 ∷ 2 ∷ 0 ∷ 0 ∷ 0 ∷ 0 ∷ 0 ∷ 0 ∷ 0 ∷ [];
    removal = Isolated (3 ∷ 4 ∷ 5 ∷ []) (1 ∷ 2 ∷ 3 ∷ []) (Some 3);
  };
  vertex_anchors = Some 5 ∷ Some 1 ∷ Some 3 ∷ None ∷ [];
  face_anchors = Some 0 ∷ None ∷ None ∷ None ∷ Some 5 ∷ [];
  face_data = 0 ∷ 1 ∷ 2 ∷ 3 ∷ 4 ∷ [];
}

-- vertex 4 is given up: (5, 8, 18) and (1, 19, 11) are the new faces 6 and 7
abbrev pub square_filled : Mesh ℕ ℕ ℕ ℕ
square_filled = record {
  shape = record {
    vertices = 5;
    edges = 10;
    words = (0 ∷ 2 ∷ 4 ∷ []) ∷ [] ∷ [] ∷ (3 ∷ 10 ∷ 9 ∷ []) ∷ [] ∷ [] ∷ (5 ∷ 8 ∷ 18 ∷ []) ∷ (1 ∷ 19 ∷ 11 ∷ []) ∷ [];
    origins = 0 ∷ 1 ∷ 1 ∷ 2 ∷ 2 ∷ 0 ∷ 0 ∷ 0 ∷ 2 ∷ 3 ∷ 1 ∷ 3 ∷ 0 ∷ 0 ∷ 0 ∷ 0 ∷ 0 ∷ 0 ∷ 3 ∷ 0 ∷ [];
    removal = Isolated (3 ∷ 6 ∷ 7 ∷ 8 ∷ []) (1 ∷ 2 ∷ 4 ∷ 5 ∷ []) (Some 4);
  };
  vertex_anchors = Some 19 ∷ Some 1 ∷ Some 8 ∷ Some 11 ∷ None ∷ [];
  face_anchors = Some 0 ∷ None ∷ None ∷ Some 3 ∷ None ∷ None ∷ Some 18 ∷ Some 19 ∷ [];
  vertex_data = on_edge.vertex_data;
  directed_data = 0 ∷ 1 ∷ 2 ∷ 3 ∷ 4 ∷ 5 ∷ 6 ∷ 7 ∷ 8 ∷ 9 ∷ 10 ∷ 11 ∷ 12 ∷ 13 ∷ 14 ∷ 15 ∷ 16 ∷ 17 ∷ 18 ∷ 19 ∷ [];
  undirected_data = 0 ∷ 1 ∷ 2 ∷ 3 ∷ 4 ∷ 5 ∷ 6 ∷ 7 ∷ 8 ∷ 9 ∷ [];
  face_data = 0 ∷ 1 ∷ 2 ∷ 3 ∷ 4 ∷ 5 ∷ 6 ∷ 7 ∷ [];
}

-- with the edges and faces in the order of the out edges, or in any order
abbrev pub FillsTriangle : Type 0
FillsTriangle = (hole_filled inside_triangle 3 (1 ∷ 3 ∷ 5 ∷ []) [] [] (4 ∷ []) ≡ triangle_filled)
    × (ring_remeshed inside_triangle (1 ∷ 3 ∷ 5 ∷ []) (5 ∷ 4 ∷ 3 ∷ []) (1 ∷ 2 ∷ 3 ∷ []) [] [] (4 ∷ []) ≡ triangle_filled)

abbrev pub FillsSquare : Type 0
FillsSquare = (edges_at on_edge 4 ≡ 3 ∷ 6 ∷ 7 ∷ 8 ∷ []) × (faces_at on_edge 4 ≡ 2 ∷ 4 ∷ 5 ∷ 1 ∷ [])
    × (hole_filled on_edge 4 (1 ∷ 11 ∷ 8 ∷ 5 ∷ []) (18 ∷ 19 ∷ []) (9 ∷ []) (6 ∷ 7 ∷ []) ≡ square_filled)

-- of ten edges 3, 6, 7 and 8 are taken out, and of eight faces 1, 2, 4 and 5: edge 9 goes to 8, 7, 6 and 3, face 7 to 5 and 2, and
-- face 6 to 4 and 1
abbrev pub GoesFromHoleToHole : Type 0
GoesFromHoleToHole =
    (renumbered 10 (8 ∷ 7 ∷ 6 ∷ 3 ∷ []) ≡ 0 ∷ 1 ∷ 2 ∷ 9 ∷ 4 ∷ 5 ∷ []) × (renumbered 8 (5 ∷ 4 ∷ 2 ∷ 1 ∷ []) ≡ 0 ∷ 6 ∷ 7 ∷ 3 ∷ [])

-- a triangle whose edges are 1, 2 and 3, while edge 0, face 1 and vertex 1 are given up; each datum is its number
abbrev pub scattered : Mesh ℕ ℕ ℕ ℕ
scattered = record {
  shape = record {
    vertices = 4;
    edges = 4;
    words = (2 ∷ 4 ∷ 6 ∷ []) ∷ [] ∷ (3 ∷ 7 ∷ 5 ∷ []) ∷ [];
    origins = 0 ∷ 0 ∷ 2 ∷ 3 ∷ 3 ∷ 0 ∷ 0 ∷ 2 ∷ [];
    removal = Isolated (0 ∷ []) (1 ∷ []) (Some 1);
  };
  vertex_anchors = Some 6 ∷ None ∷ Some 2 ∷ Some 4 ∷ [];
  face_anchors = Some 6 ∷ None ∷ Some 7 ∷ [];
  vertex_data = 0 ∷ 1 ∷ 2 ∷ 3 ∷ [];
  directed_data = 0 ∷ 1 ∷ 2 ∷ 3 ∷ 4 ∷ 5 ∷ 6 ∷ 7 ∷ [];
  undirected_data = 0 ∷ 1 ∷ 2 ∷ 3 ∷ [];
  face_data = 0 ∷ 1 ∷ 2 ∷ [];
}

-- cleaned up, and without its vertex, it has the data of edge 3 at edge 0, of face 2 at face 1 and of vertex 3 at vertex 1
abbrev pub gathered : Mesh ℕ ℕ ℕ ℕ
gathered = record {
  shape = record {
    vertices = 3;
    edges = 3;
    words = (0 ∷ 2 ∷ 4 ∷ []) ∷ (1 ∷ 5 ∷ 3 ∷ []) ∷ [];
    origins = 0 ∷ 2 ∷ 2 ∷ 1 ∷ 1 ∷ 0 ∷ [];
    removal = Closed;
  };
  vertex_anchors = Some 0 ∷ Some 4 ∷ Some 2 ∷ [];
  face_anchors = Some 0 ∷ Some 1 ∷ [];
  vertex_data = 0 ∷ 3 ∷ 2 ∷ [];
  directed_data = 6 ∷ 7 ∷ 2 ∷ 3 ∷ 4 ∷ 5 ∷ [];
  undirected_data = 3 ∷ 1 ∷ 2 ∷ [];
  face_data = 0 ∷ 2 ∷ [];
}
