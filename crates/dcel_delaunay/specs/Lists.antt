-- What lists of a mesh have, by number: the corners of triangles and the triangles across from them, the ends of edges, and the hull.
use Rattle.std.specs.Prelude.{◌≡◌, ℕ, zero, suc, ◌*◌, ◌==◌, List, map, reverse, Option, None, Some, cond, slice_get}
use Rattle.dcel_fixed.specs.HalfEdges.{rev}
use Rattle.dcel_maps.specs.Numbers.{numbers_between}
use Rattle.dcel_maps.specs.Shapes.{Mesh, Shape, adjacent_edge_of, end_of, face_count, face_of, next_of, origin_of, prev_of}
use Rattle.dcel_maps.specs.Walking.{hull_of}
use Rattle.dcel_plane.specs.covering.Delaunay.{HasCornerVertices}
use Rattle.dcel_delaunay.specs.declared.lists.Across.{Across}
use Rattle.dcel_delaunay.specs.declared.lists.Ends.{Ends}
use Rattle.dcel_delaunay.specs.declared.triangles.triangle.Triangle.{Triangle}

-- the inner faces, by number
abbrev pub inner_faces : Shape → List ℕ
inner_faces s = numbers_between 1 (face_count s)

-- the place of a face among them; the outer face, 0, has none
abbrev pub place_of : ℕ → Option ℕ
place_of zero = None
place_of (suc i) = Some i

-- a triangle's corners, counterclockwise: the one opposite its half edge h, and the ends of h
abbrev pub corners_from : Shape → ℕ → Triangle
corners_from s h = record { first = origin_of s (prev_of s h); second = origin_of s h; third = origin_of s (next_of s h) }

-- the faces across from these corners: beyond h, beyond the half edge after it, and beyond the one before it
abbrev pub across_from : Shape → ℕ → Across
across_from s h = record { first = place_of (face_of s (rev h)); second = place_of (face_of s (rev (next_of s h))); third = place_of (face_of s (rev (prev_of s h))) }

-- the ends of the edge u: where its half edge of an even number starts and ends
abbrev pub ends_of : Shape → ℕ → Ends
ends_of s u = record { from = origin_of s (2 * u); to = end_of s (2 * u) }

-- each triangle's numbers are those of the corners of the inner face in its place, one after the other
abbrev pub ListsCorners : Shape → List Triangle → Type 0
ListsCorners s list = (i : ℕ) (t : Triangle) → slice_get list i ≡ Some t → HasCornerVertices s (suc i) t.first t.second t.third

module _ {V DE UE F : Type 0} where
  -- from the face's anchor
  abbrev pub corners_of : Mesh V DE UE F → ℕ → Triangle
  corners_of m f = corners_from m.shape (adjacent_edge_of m f)

  abbrev pub across_of : Mesh V DE UE F → ℕ → Across
  across_of m f = across_from m.shape (adjacent_edge_of m f)

  -- the vertices of the hull, counterclockwise: the outer face is on the left of its half edges, and goes round clockwise. Without an edge it is
  -- all vertices.
  abbrev pub hull_vertices : Mesh V DE UE F → List ℕ
  hull_vertices m = cond (m.shape.edges == 0) (numbers_between 0 m.shape.vertices) (reverse (map (origin_of m.shape) (hull_of m)))
