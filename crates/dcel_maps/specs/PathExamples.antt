-- Removals from degenerate meshes that the definitions are checked against. Each datum is its number.
use Rattle.std.specs.Prelude.{◌≡◌, ℕ, [], ◌∷◌, Some, None}
use Rattle.dcel_maps.specs.edits.Create.{first_edge_alone, vertex_appended, outer_alone}
use Rattle.dcel_maps.specs.edits.Degenerate.{removed_degenerate}
use Rattle.dcel_maps.specs.edits.Line.{line_extended}
use Rattle.dcel_maps.specs.Removals.{Closed}
use Rattle.dcel_maps.specs.Shapes.{Mesh}
use Rattle.dcel_maps.specs.StripExamples.{line_of_three}

-- the edge from vertex 0 to vertex 1; extended from 0 by 2, and from 1 by 3
abbrev pub one_edge : Mesh ℕ ℕ ℕ ℕ
one_edge = first_edge_alone (0 ∷ 1 ∷ []) 0 1 (0 ∷ 1 ∷ []) (0 ∷ []) (0 ∷ [])

abbrev pub line_of_four : Mesh ℕ ℕ ℕ ℕ
line_of_four =
    line_extended (vertex_appended (line_extended (vertex_appended one_edge 2) 0 2 (2 ∷ 3 ∷ []) (1 ∷ [])) 3) 1 3 (4 ∷ 5 ∷ []) (2 ∷ [])

-- its end 2 goes: vertex 3 and edge 2 get the numbers 2 and 1
abbrev pub EndGone : Type 0
EndGone = removed_degenerate line_of_four 2 ≡ record {
  shape = record {
    vertices = 3;
    edges = 2;
    words = (0 ∷ 3 ∷ 2 ∷ 1 ∷ []) ∷ [];
    origins = 0 ∷ 1 ∷ 2 ∷ 1 ∷ [];
    removal = Closed;
  };
  vertex_anchors = Some 0 ∷ Some 1 ∷ Some 2 ∷ [];
  face_anchors = Some 0 ∷ [];
  vertex_data = 0 ∷ 1 ∷ 3 ∷ [];
  directed_data = 0 ∷ 1 ∷ 4 ∷ 5 ∷ [];
  undirected_data = 0 ∷ 2 ∷ [];
  face_data = 0 ∷ [];
}

-- one of two vertices goes, and then the other one
abbrev pub one_vertex : Mesh ℕ ℕ ℕ ℕ
one_vertex = record {
  shape = record { vertices = 1; edges = 0; words = [] ∷ []; origins = []; removal = Closed };
  vertex_anchors = None ∷ [];
  face_anchors = None ∷ [];
  vertex_data = 1 ∷ [];
  directed_data = [];
  undirected_data = [];
  face_data = 0 ∷ [];
}

abbrev pub no_vertex : Mesh ℕ ℕ ℕ ℕ
no_vertex = outer_alone 0

abbrev pub BothGone : Type 0
BothGone = (removed_degenerate one_edge 0 ≡ one_vertex) × (removed_degenerate one_vertex 0 ≡ no_vertex)

-- vertex 2 in the middle of a line goes: edge 1 joins 0 and 1, and gets the number 0
abbrev pub MiddleGone : Type 0
MiddleGone = removed_degenerate line_of_three 2 ≡ record {
  shape = record { vertices = 2; edges = 1; words = (0 ∷ 1 ∷ []) ∷ []; origins = 0 ∷ 1 ∷ []; removal = Closed };
  vertex_anchors = Some 0 ∷ Some 1 ∷ [];
  face_anchors = Some 0 ∷ [];
  vertex_data = 0 ∷ 1 ∷ [];
  directed_data = 2 ∷ 3 ∷ [];
  undirected_data = 1 ∷ [];
  face_data = 0 ∷ [];
}
