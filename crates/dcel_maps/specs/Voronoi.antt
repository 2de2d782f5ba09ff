-- The Voronoi diagram, the dual of a mesh: its faces have the numbers of the vertices, and its edges those of the half edges. A Voronoi
-- edge leads from the face on which its half edge lies to the one on the other side, and has the half edge's start on its one side.
-- Source: the Voronoi handles of `spade`.
use Rattle.std.specs.Prelude.{◌≡◌, ℕ, ◌<◌, ◌==◌, if◌then◌else◌, true, List, [], ◌∷◌, Option, Some, None}
use Rattle.dcel_fixed.specs.HalfEdges.{rev}
use Rattle.dcel_maps.specs.Shapes.{Shape, Mesh, face_is_live, face_of, next_of, prev_of, adjacent_edge_of}

-- a vertex of the diagram: an inner face; or, since the outer face is none, the end of a Voronoi edge there, which has it to itself
pub data DualVertex : Type 0 where
  OfFace : ℕ → DualVertex
  OutsideOf : ℕ → DualVertex

-- where a Voronoi edge starts and ends
abbrev pub dual_start : Shape → ℕ → DualVertex
dual_start s h = (if face_of s h == 0 then OutsideOf h else OfFace (face_of s h))

abbrev pub dual_end : Shape → ℕ → DualVertex
dual_end s h = dual_start s (rev h)

-- a vertex that is an inner face is a live one, other than face 0
abbrev pub IsLiveDual : Shape → DualVertex → Type 0
IsLiveDual s (OfFace f) = (face_is_live s f ≡ true) × (0 < f)
IsLiveDual s (OutsideOf h) = Unit {0}

-- the face that a vertex is dual to
abbrev pub face_dual_to : DualVertex → Option ℕ
face_dual_to (OfFace f) = Some f
face_dual_to (OutsideOf h) = None

module _ {V DE UE F : Type 0} where
  -- the Voronoi edges that start at an inner face: its anchor, between the half edges before and after it
  abbrev pub dual_out_edges : Mesh V DE UE F → DualVertex → Option (List ℕ)
  dual_out_edges m (OfFace f) =
      let edge = adjacent_edge_of m f in Some (prev_of m.shape edge ∷ edge ∷ next_of m.shape edge ∷ [])
  dual_out_edges m (OutsideOf h) = None

  -- one that starts there: a face's anchor, and the one edge of an outer vertex
  abbrev pub dual_out_edge : Mesh V DE UE F → DualVertex → ℕ
  dual_out_edge m (OfFace f) = adjacent_edge_of m f
  dual_out_edge m (OutsideOf h) = h
