-- The items of a list that are kept: those whose flags are set. One without a flag isn't.
use Rattle.std.specs.Prelude.{ℕ, zero, suc, ◌*◌, Bool, false, ◌||◌, List, [], ◌∷◌, ◌++◌, Option, None, Some, if◌then◌else◌}
use Rattle.std.specs.List.{slice_index_or}
use Rattle.dcel_fixed.specs.HalfEdges.{rev}
use Rattle.dcel_maps.specs.Shapes.{Shape, face_of}
use Rattle.dcel_delaunay.specs.declared.lists.Across.{Across}

abbrev pub kept : {T : Type 0} → List Bool → List T → List T
kept flags [] = []
kept [] (item ∷ items) = []
kept (flag ∷ flags) (item ∷ items) = (if flag then item ∷ [] else []) ++ kept flags items

-- how many are kept with one more item
abbrev pub number_after : ℕ → Bool → ℕ
number_after number flag = if flag then suc number else number

-- for each item its place among those that are kept, from a number on, if it is one
abbrev pub places_among : ℕ → List Bool → List (Option ℕ)
places_among number [] = []
places_among number (flag ∷ flags) = (if flag then Some number else None) ∷ places_among (number_after number flag) flags

-- the place that a list has for a triangle, if there is one and it has
abbrev pub placed : List (Option ℕ) → Option ℕ → Option ℕ
placed places None = None
placed places (Some n) = slice_index_or places n None

abbrev pub placed_across : List (Option ℕ) → Across → Across
placed_across places a = record { first = placed places a.first; second = placed places a.second; third = placed places a.third }

-- what is across from a triangle's corners, by the places among those that are kept
abbrev pub across_among : List Bool → Across → Across
across_among flags a = placed_across (places_among 0 flags) a

-- whether the flag of a face is set; the outer face, 0, has none
abbrev pub has_flag : List Bool → ℕ → Bool
has_flag flags zero = false
has_flag flags (suc i) = slice_index_or flags i false

-- whether that of a face beside the edge u is
abbrev pub is_beside : Shape → List Bool → ℕ → Bool
is_beside s flags u = has_flag flags (face_of s (2 * u)) || has_flag flags (face_of s (rev (2 * u)))
