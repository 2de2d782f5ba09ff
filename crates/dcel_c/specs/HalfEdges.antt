-- The links of half edges, in a buffer.
use Rattle.dcel_maps.specs.Shapes.{Shape, edge_is_live, next_of, prev_of, origin_of, face_of}
use Rattle.dcel_c.specs.Held.{Kept}
use Rattle.dcel_c.specs.Lists.{buffer_status}
use Rattle.dcel_c.specs.declared.links.DcelHalfEdge.{DcelHalfEdge}
use Rattle.std.specs.Prelude.{◌-◌, ◌*◌, ◌/◌, ◌^◌, ◌++◌, ◌∷◌, ℕ, zero, suc, List, [], Some, None, length, min, drop, if◌then◌else◌}

-- what stands for a link that is not there
abbrev pub no_link : ℕ
no_link = 2 ^ 32 - 1

abbrev pub no_links : DcelHalfEdge
no_links = record { next = no_link; prev = no_link; origin = no_link; face = no_link }

-- the links of a half edge
abbrev pub links_of : Shape → ℕ → DcelHalfEdge
links_of s h = if edge_is_live s (h / 2)
    then record { next = next_of s h; prev = prev_of s h; origin = origin_of s h; face = face_of s h }
    else no_links

abbrev pub links_in : Kept → ℕ → DcelHalfEdge
links_in None h = no_links
links_in (Some mesh) h = links_of mesh.shape h

-- those of the half edges below n, in their order
abbrev pub links_below : Shape → ℕ → List DcelHalfEdge
links_below s zero = []
links_below s (suc n) = links_below s n ++ links_of s n ∷ []

-- those of the half edges, as many as fit, before what stays of the buffer
abbrev pub links_filled : Shape → List DcelHalfEdge → List DcelHalfEdge
links_filled s before = let n = min (2 * s.edges) (length before) in links_below s n ++ drop n before

-- a buffer filled with the links of the mesh; it stays if there is none
abbrev pub fill_links : Kept → List DcelHalfEdge → List DcelHalfEdge
fill_links None before = before
fill_links (Some mesh) before = links_filled mesh.shape before

abbrev pub links_status : Kept → ℕ → ℕ → ℕ
links_status None needed room = 21
links_status (Some mesh) needed room = buffer_status needed room
