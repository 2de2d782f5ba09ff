-- The lines that are written of a triangulation: numbers in decimals, with a space between two, each line ended by a line feed.
use Rattle.std.specs.Prelude.{ℕ, List, [], ◌∷◌, ◌&&◌, Option, None, Some, codes, if◌then◌else◌, leb, map, max, min}
use Rattle.std.specs.List.{flat_map}
use Rattle.std.specs.Fmt.{decimal}
use Rattle.dcel_text.specs.Items.{spaced}
use Rattle.dcel_text.specs.Texts.{ended}
use Rattle.dcel_delaunay.specs.declared.lists.Across.{Across}
use Rattle.dcel_delaunay.specs.declared.lists.Ends.{Ends}
use Rattle.dcel_delaunay.specs.declared.triangles.triangle.Triangle.{Triangle}

-- three things that belong to the corners of a triangle, counterclockwise from the corner with the least number on
abbrev pub from_least : {T : Type 0} → Triangle → (first second third : T) → List T
from_least t first second third =
    if leb t.first t.second && leb t.first t.third then first ∷ second ∷ third ∷ []
    else (if leb t.second t.third then second ∷ third ∷ first ∷ [] else third ∷ first ∷ second ∷ [])

-- the numbers of the corners
abbrev pub corners_from_least : Triangle → List ℕ
corners_from_least t = from_least t t.first t.second t.third

-- what is across from the corners
abbrev pub neighbors_from_least : Triangle × Across → List (Option ℕ)
neighbors_from_least (t, across) = from_least t across.first across.second across.third

-- a number, or -1 for none
abbrev pub entry : Option ℕ → List ℕ
entry None = codes "-1"
entry (Some n) = decimal n

-- the line of a triangle: its corners, counterclockwise, the least number first
unfoldable pub triangle_line : Triangle → List ℕ
triangle_line t = ended (spaced (map decimal (corners_from_least t)))

-- the line of a triangle and what is across from its corners: one for each corner, in the order of the corners
unfoldable pub neighbor_line : Triangle × Across → List ℕ
neighbor_line pair = ended (spaced (map entry (neighbors_from_least pair)))

-- the line of an edge: its ends, the lesser number first
unfoldable pub edge_line : Ends → List ℕ
edge_line e = ended (spaced (decimal (min e.from e.to) ∷ decimal (max e.from e.to) ∷ []))

-- the line of a vertex
unfoldable pub vertex_line : ℕ → List ℕ
vertex_line v = ended (decimal v)

-- the line of what is nearest, if there is one
unfoldable pub nearest_line : Option ℕ → List ℕ
nearest_line v = ended (entry v)

-- a line for each
abbrev pub lines_of : {T : Type 0} → (T → List ℕ) → List T → List ℕ
lines_of line items = flat_map line items
