-- Strips that the definitions are checked against. Each datum is its number.
use Rattle.std.specs.Prelude.{◌≡◌, ℕ, [], ◌∷◌, Some, None}
use Rattle.dcel_maps.specs.edits.Create.{first_edge_alone, vertex_appended}
use Rattle.dcel_maps.specs.edits.Split.{edge_split_on_line}
use Rattle.dcel_maps.specs.edits.Strip.{strip_cut}
use Rattle.dcel_maps.specs.edits.Triangle.{triangle_alone}
use Rattle.dcel_maps.specs.Examples.{inside_triangle}
use Rattle.dcel_maps.specs.Removals.{Isolated}
use Rattle.dcel_maps.specs.Renumbering.{cleaned_up, vertex_taken_out}
use Rattle.dcel_maps.specs.Shapes.{Mesh}
use Rattle.dcel_maps.specs.Strips.{strip_of}

-- a triangle
abbrev pub one_triangle : Mesh ℕ ℕ ℕ ℕ
one_triangle = triangle_alone (0, 1, 2) (0 ∷ 1 ∷ 2 ∷ 3 ∷ 4 ∷ 5 ∷ []) (0 ∷ 1 ∷ 2 ∷ []) (0 ∷ 1 ∷ [])

-- the edge from vertex 0 to vertex 1, with vertex 2 in its middle
abbrev pub line_of_three : Mesh ℕ ℕ ℕ ℕ
line_of_three =
    edge_split_on_line (vertex_appended (first_edge_alone (0 ∷ 1 ∷ []) 0 1 (0 ∷ 1 ∷ []) (0 ∷ []) (0 ∷ [])) 2) 0 2 (2 ∷ 3 ∷ []) (1 ∷ [])

-- the strip round vertex 1, whose outer out edge is 2, is (6, 9, 4): of the triangle with vertex 3 in it, two triangles go with vertex 1
abbrev pub CornerOfThreeCut : Type 0
CornerOfThreeCut =
    let cut = strip_cut inside_triangle (6 ∷ 9 ∷ 4 ∷ []) in
    (strip_of inside_triangle.shape 2 ≡ 6 ∷ 9 ∷ 4 ∷ [])
    × (cut.shape.words ≡ (4 ∷ 6 ∷ 9 ∷ []) ∷ [] ∷ (5 ∷ 8 ∷ 7 ∷ []) ∷ [] ∷ [])
    × (cut.shape.origins ≡ 0 ∷ 0 ∷ 0 ∷ 0 ∷ 2 ∷ 0 ∷ 0 ∷ 3 ∷ 2 ∷ 3 ∷ 0 ∷ 0 ∷ [])
    × (cut.shape.removal ≡ Isolated (0 ∷ 1 ∷ 5 ∷ []) (1 ∷ 3 ∷ []) (Some 1))
    × (cut.vertex_anchors ≡ Some 6 ∷ None ∷ Some 4 ∷ Some 9 ∷ [])
    × (cut.face_anchors ≡ Some 4 ∷ None ∷ Some 5 ∷ None ∷ [])
    × ((vertex_taken_out (cleaned_up cut) 1).shape.words ≡ (0 ∷ 3 ∷ 4 ∷ []) ∷ (1 ∷ 5 ∷ 2 ∷ []) ∷ [])

-- a corner of one triangle
abbrev pub CornerCut : Type 0
CornerCut =
    let cut = strip_cut one_triangle (5 ∷ 4 ∷ []) in
    (strip_of one_triangle.shape 2 ≡ 5 ∷ 4 ∷ [])
    × (cut.shape.words ≡ (4 ∷ 5 ∷ []) ∷ [] ∷ [])
    × (cut.shape.origins ≡ 0 ∷ 0 ∷ 0 ∷ 0 ∷ 2 ∷ 0 ∷ [])
    × (cut.shape.removal ≡ Isolated (0 ∷ 1 ∷ []) (1 ∷ []) (Some 1))
    × (cut.vertex_anchors ≡ Some 5 ∷ None ∷ Some 4 ∷ [])
    × (cut.face_anchors ≡ Some 4 ∷ None ∷ [])
    × ((cleaned_up cut).shape.words ≡ (0 ∷ 1 ∷ []) ∷ [])
    × ((vertex_taken_out (cleaned_up cut) 1).shape.origins ≡ 1 ∷ 0 ∷ [])

-- an end of a line is a strip without triangles
abbrev pub EndCut : Type 0
EndCut =
    let cut = strip_cut line_of_three (1 ∷ []) in
    (strip_of line_of_three.shape 3 ≡ 1 ∷ [])
    × (cut.shape.words ≡ (0 ∷ 1 ∷ []) ∷ [])
    × (cut.shape.origins ≡ 0 ∷ 2 ∷ 0 ∷ 0 ∷ [])
    × (cut.shape.removal ≡ Isolated (1 ∷ []) [] (Some 1))
    × (cut.vertex_anchors ≡ Some 0 ∷ None ∷ Some 1 ∷ [])
    × (cut.face_anchors ≡ Some 1 ∷ [])
    × ((vertex_taken_out (cleaned_up cut) 1).shape.words ≡ (0 ∷ 1 ∷ []) ∷ [])
