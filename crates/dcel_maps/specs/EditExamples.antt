-- Meshes that edits make, which the definitions are checked against.
use Rattle.std.specs.Prelude.{◌≡◌, ℕ, [], ◌∷◌, Some, None, replicate}
use Rattle.dcel_maps.specs.edits.Create.{first_edge_added, first_edge_alone, outer_alone, vertex_appended}
use Rattle.dcel_maps.specs.edits.Data.{vertex_updated, directed_edge_updated}
use Rattle.dcel_maps.specs.edits.Rename.{vertices_swapped}
use Rattle.dcel_maps.specs.edits.Split.{edge_split, edge_split_on_line, half_edge_split}
use Rattle.dcel_maps.specs.edits.Triangle.{triangle_alone, vertex_inserted}
use Rattle.dcel_maps.specs.Removals.{Isolated}
use Rattle.dcel_maps.specs.Shapes.{Mesh}

abbrev pub Bare : Type 0
Bare = Mesh (Unit {0}) (Unit {0}) (Unit {0}) (Unit {0})

-- four vertices, of which an edge joins 0 and 1
abbrev pub joined : Bare
joined =
    first_edge_added (vertex_appended (vertex_appended (vertex_appended (vertex_appended (outer_alone tt) tt) tt) tt) tt)
    0 1 (tt ∷ tt ∷ []) (tt ∷ [])

-- 2 put between 0 and 1, and then 3 between 0 and 2
abbrev pub once : Bare
once = edge_split_on_line joined 0 2 (tt ∷ tt ∷ []) (tt ∷ [])

abbrev pub twice : Bare
twice = edge_split_on_line once 0 3 (tt ∷ tt ∷ []) (tt ∷ [])

-- from the other half edge on, the word is written from its least item again
abbrev pub turned : Bare
turned = edge_split_on_line joined 1 2 (tt ∷ tt ∷ []) (tt ∷ [])

abbrev pub LineSplit : Type 0
LineSplit =
    (once.shape.words ≡ (0 ∷ 2 ∷ 3 ∷ 1 ∷ []) ∷ [])
    × (once.shape.origins ≡ 0 ∷ 2 ∷ 2 ∷ 1 ∷ [])
    × (once.vertex_anchors ≡ Some 0 ∷ Some 3 ∷ Some 2 ∷ None ∷ [])
    × (twice.shape.words ≡ (0 ∷ 4 ∷ 2 ∷ 3 ∷ 5 ∷ 1 ∷ []) ∷ [])
    × (turned.shape.words ≡ (0 ∷ 1 ∷ 2 ∷ 3 ∷ []) ∷ [])

-- a triangle whose data are numbers: those of vertex 1 and of half edge 3 replaced
abbrev pub numbered : Mesh ℕ ℕ ℕ ℕ
numbered = triangle_alone (7, 8, 9) (replicate 6 0) (replicate 3 0) (replicate 2 0)

abbrev pub DataUpdated : Type 0
DataUpdated =
    ((vertex_updated numbered 1 5).vertex_data ≡ 7 ∷ 5 ∷ 9 ∷ [])
    × ((directed_edge_updated numbered 3 5).directed_data ≡ 0 ∷ 0 ∷ 0 ∷ 5 ∷ 0 ∷ 0 ∷ [])

-- a triangle and a fourth vertex, which is put into the edge of 0 and 1: on both sides, or on the outer one alone
abbrev pub fourth : Bare
fourth = vertex_appended (triangle_alone (tt, tt, tt) (replicate 6 tt) (replicate 3 tt) (replicate 2 tt)) tt

abbrev pub both : Bare
both = edge_split fourth 0 3 (replicate 6 tt) (replicate 3 tt) (replicate 2 tt)

abbrev pub half : Bare
half = half_edge_split fourth 0 3 (replicate 4 tt) (replicate 2 tt) (replicate 1 tt)

abbrev pub EdgeSplit : Type 0
EdgeSplit =
    (both.shape.words ≡ (0 ∷ 11 ∷ 4 ∷ []) ∷ (1 ∷ 5 ∷ 6 ∷ []) ∷ (3 ∷ 8 ∷ 7 ∷ []) ∷ (2 ∷ 10 ∷ 9 ∷ []) ∷ [])
    × (both.shape.origins ≡ 0 ∷ 3 ∷ 1 ∷ 2 ∷ 2 ∷ 0 ∷ 2 ∷ 3 ∷ 1 ∷ 3 ∷ 2 ∷ 3 ∷ [])
    × (both.vertex_anchors ≡ Some 0 ∷ Some 8 ∷ Some 4 ∷ Some 1 ∷ [])

abbrev pub HalfSplit : Type 0
HalfSplit =
    (half.shape.words ≡ (0 ∷ 7 ∷ 4 ∷ []) ∷ (1 ∷ 5 ∷ 3 ∷ 9 ∷ []) ∷ (2 ∷ 6 ∷ 8 ∷ []) ∷ [])
    × (half.shape.origins ≡ 0 ∷ 3 ∷ 1 ∷ 2 ∷ 2 ∷ 0 ∷ 2 ∷ 3 ∷ 3 ∷ 1 ∷ [])
    × (half.vertex_anchors ≡ Some 0 ∷ Some 9 ∷ Some 4 ∷ Some 8 ∷ [])

-- a triangle with vertex 3 in face 1, and each vertex with its number as its datum: 0 and 1 are exchanged
abbrev pub triangle : Mesh ℕ (Unit {0}) (Unit {0}) (Unit {0})
triangle = triangle_alone (0, 1, 2) (replicate 6 tt) (replicate 3 tt) (replicate 2 tt)

abbrev pub cut : Mesh ℕ (Unit {0}) (Unit {0}) (Unit {0})
cut = vertex_inserted (vertex_appended triangle 3) 3 1 (replicate 6 tt) (replicate 3 tt) (replicate 2 tt)

abbrev pub swapped : Mesh ℕ (Unit {0}) (Unit {0}) (Unit {0})
swapped = vertices_swapped cut 0 1

abbrev pub VertexInserted : Type 0
VertexInserted =
    (cut.shape.words ≡ (0 ∷ 2 ∷ 4 ∷ []) ∷ (1 ∷ 6 ∷ 11 ∷ []) ∷ (5 ∷ 8 ∷ 7 ∷ []) ∷ (3 ∷ 10 ∷ 9 ∷ []) ∷ [])
    × (cut.shape.origins ≡ 0 ∷ 1 ∷ 1 ∷ 2 ∷ 2 ∷ 0 ∷ 0 ∷ 3 ∷ 2 ∷ 3 ∷ 1 ∷ 3 ∷ [])

-- where edge 1 is given up, its halves show 0 as their origin before and after
abbrev pub opened : Mesh ℕ (Unit {0}) (Unit {0}) (Unit {0})
opened = record triangle {
  shape = record triangle.shape { origins = 0 ∷ 1 ∷ 0 ∷ 0 ∷ 2 ∷ 0 ∷ []; removal = Isolated (1 ∷ []) [] None };
}

abbrev pub VerticesSwapped : Type 0
VerticesSwapped =
    (swapped.shape.words ≡ cut.shape.words)
    × (swapped.shape.origins ≡ 1 ∷ 0 ∷ 0 ∷ 2 ∷ 2 ∷ 1 ∷ 1 ∷ 3 ∷ 2 ∷ 3 ∷ 0 ∷ 3 ∷ [])
    × (swapped.vertex_anchors ≡ Some 2 ∷ Some 0 ∷ Some 4 ∷ Some 7 ∷ [])
    × (swapped.vertex_data ≡ 1 ∷ 0 ∷ 2 ∷ 3 ∷ [])
    × ((vertices_swapped opened 0 1).shape.origins ≡ 1 ∷ 0 ∷ 0 ∷ 0 ∷ 2 ∷ 1 ∷ [])

-- three vertices with the data 5, 6, 7, and an edge from vertex 2 to vertex 0: it is what the first edge makes of them
abbrev pub fixed : Mesh ℕ (Unit {0}) (Unit {0}) (Unit {0})
fixed = first_edge_alone (5 ∷ 6 ∷ 7 ∷ []) 2 0 (tt ∷ tt ∷ []) (tt ∷ []) (tt ∷ [])

abbrev pub FirstEdgeAdded : Type 0
FirstEdgeAdded =
    (fixed.shape.words ≡ (0 ∷ 1 ∷ []) ∷ [])
    × (fixed.shape.origins ≡ 2 ∷ 0 ∷ [])
    × (fixed.vertex_anchors ≡ Some 1 ∷ None ∷ Some 0 ∷ [])
    × (first_edge_added (vertex_appended (vertex_appended (vertex_appended (outer_alone tt) 5) 6) 7) 2 0 (tt ∷ tt ∷ []) (tt ∷ []) ≡ fixed)
