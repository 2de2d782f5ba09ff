-- Regions that the definitions are checked against. Each datum is its number.
use Rattle.std.specs.Prelude.{◌≡◌, ℕ, [], ◌∷◌, Some, None}
use Rattle.dcel_maps.specs.edits.Fill.{ring_remeshed}
use Rattle.dcel_maps.specs.Examples.{inside_triangle}
use Rattle.dcel_maps.specs.Regions.{IsRegionRing}
use Rattle.dcel_maps.specs.Removals.{Closed, Isolated}
use Rattle.dcel_maps.specs.Renumbering.{cleaned_up}
use Rattle.dcel_maps.specs.Shapes.{Mesh}
use Rattle.dcel_maps.specs.StripExamples.{one_triangle}

-- the face of a triangle
abbrev pub one_filled : Mesh ℕ ℕ ℕ ℕ
one_filled = ring_remeshed one_triangle (1 ∷ 3 ∷ 5 ∷ []) [] (1 ∷ []) [] [] (2 ∷ [])

-- two faces of the triangle with vertex 3 inside, with edge 3 between them
abbrev pub two_filled : Mesh ℕ ℕ ℕ ℕ
two_filled = ring_remeshed inside_triangle (1 ∷ 11 ∷ 8 ∷ 5 ∷ []) (3 ∷ []) (1 ∷ 2 ∷ []) (12 ∷ 13 ∷ []) (6 ∷ []) (4 ∷ 5 ∷ [])

-- its three faces, with the edges 3 and 4 between them: edge 5 is not given up, so that vertex 3 lies on the ring
abbrev pub three_filled : Mesh ℕ ℕ ℕ ℕ
three_filled =
    ring_remeshed inside_triangle (1 ∷ 11 ∷ 10 ∷ 3 ∷ 5 ∷ []) (3 ∷ 4 ∷ []) (1 ∷ 2 ∷ 3 ∷ []) (12 ∷ 13 ∷ 14 ∷ 15 ∷ []) (6 ∷ 7 ∷ [])
    (4 ∷ 5 ∷ 6 ∷ [])

abbrev pub FillsOneFace : Type 0
FillsOneFace =
    let after = cleaned_up one_filled in
    IsRegionRing one_triangle.shape (1 ∷ 3 ∷ 5 ∷ []) [] (1 ∷ [])
    × (one_filled.shape.words ≡ (0 ∷ 2 ∷ 4 ∷ []) ∷ [] ∷ (1 ∷ 5 ∷ 3 ∷ []) ∷ [])
    × (one_filled.shape.removal ≡ Isolated [] (1 ∷ []) None)
    × (after.shape.words ≡ (0 ∷ 2 ∷ 4 ∷ []) ∷ (1 ∷ 5 ∷ 3 ∷ []) ∷ [])
    × (after.shape.removal ≡ Closed)

abbrev pub FillsTwoFaces : Type 0
FillsTwoFaces =
    let after = cleaned_up two_filled in
    IsRegionRing inside_triangle.shape (1 ∷ 11 ∷ 8 ∷ 5 ∷ []) (3 ∷ []) (1 ∷ 2 ∷ [])
    × (two_filled.shape.words ≡ (0 ∷ 2 ∷ 4 ∷ []) ∷ [] ∷ [] ∷ (3 ∷ 10 ∷ 9 ∷ []) ∷ (5 ∷ 8 ∷ 12 ∷ []) ∷ (1 ∷ 13 ∷ 11 ∷ []) ∷ [])
    × (two_filled.shape.removal ≡ Isolated (3 ∷ []) (1 ∷ 2 ∷ []) None)
    × (after.shape.words ≡ (0 ∷ 2 ∷ 4 ∷ []) ∷ (5 ∷ 8 ∷ 6 ∷ []) ∷ (1 ∷ 7 ∷ 11 ∷ []) ∷ (3 ∷ 10 ∷ 9 ∷ []) ∷ [])
    × (after.shape.removal ≡ Closed)

abbrev pub FillsThreeFaces : Type 0
FillsThreeFaces =
    let after = cleaned_up three_filled in
    IsRegionRing inside_triangle.shape (1 ∷ 11 ∷ 10 ∷ 3 ∷ 5 ∷ []) (3 ∷ 4 ∷ []) (1 ∷ 2 ∷ 3 ∷ [])
    × (three_filled.shape.words ≡ (0 ∷ 2 ∷ 4 ∷ []) ∷ [] ∷ [] ∷ [] ∷ (3 ∷ 12 ∷ 5 ∷ []) ∷ (10 ∷ 14 ∷ 13 ∷ []) ∷ (1 ∷ 15 ∷ 11 ∷ []) ∷ [])
    × (three_filled.shape.removal ≡ Isolated (3 ∷ 4 ∷ []) (1 ∷ 2 ∷ 3 ∷ []) None)
    × (three_filled.vertex_anchors ≡ Some 15 ∷ Some 1 ∷ Some 3 ∷ Some 11 ∷ [])
    × (three_filled.face_anchors ≡ Some 0 ∷ None ∷ None ∷ None ∷ Some 12 ∷ Some 14 ∷ Some 15 ∷ [])
    × (after.shape.words ≡ (0 ∷ 2 ∷ 4 ∷ []) ∷ (3 ∷ 6 ∷ 5 ∷ []) ∷ (7 ∷ 10 ∷ 8 ∷ []) ∷ (1 ∷ 9 ∷ 11 ∷ []) ∷ [])
    × (after.vertex_anchors ≡ Some 9 ∷ Some 1 ∷ Some 3 ∷ Some 11 ∷ [])
    × (after.face_anchors ≡ Some 0 ∷ Some 6 ∷ Some 8 ∷ Some 9 ∷ [])
    × (after.shape.removal ≡ Closed)

-- The same ring read from vertex 1 on, where two of its half edges start; and faces 1 and 3, between which edge 3 doesn't lie.
abbrev pub AreNoRings : Type 0
AreNoRings =
    (¬ IsRegionRing inside_triangle.shape (11 ∷ 10 ∷ 3 ∷ 5 ∷ 1 ∷ []) (3 ∷ 4 ∷ []) (1 ∷ 2 ∷ 3 ∷ []))
    × (¬ IsRegionRing inside_triangle.shape (1 ∷ 11 ∷ 8 ∷ 5 ∷ []) (3 ∷ []) (1 ∷ 3 ∷ []))
