-- What a vertex inside triangles leaves where it is taken out, what is returned of it, and why it can't be.
use Rattle.std.specs.Prelude.{◌≡◌, ◌≢◌, ℕ, ◌-◌, ◌==◌, List, length, map, reverse, Some, None, cond, slice_get}
use Rattle.dcel_convenience.specs.declared.removing.WhyNotRemoved.{WhyNotRemoved}
use Rattle.dcel_convenience.specs.declared.removing.WhyNotRemoved.TheVariants.{CutVertex, LongFace, NoRoom, NoVertex, NotInside, OutOfMemory, RemovalOpen, SecondEdge, ShortBorder}
use Rattle.dcel_maps.specs.Borders.{IsBorderLoop}
use Rattle.dcel_maps.specs.Conditions.{HasRoom}
use Rattle.dcel_maps.specs.Removals.{Closed}
use Rattle.dcel_maps.specs.Renumbering.{cleaned_up, vertex_taken_out}
use Rattle.dcel_maps.specs.Shapes.{Mesh, Shape, next_of}
use Rattle.dcel_maps.specs.Walking.{ccw_of, out_edges_of, walk_of}
use Rattle.dcel_maps.specs.edits.Fill.{FillsHole, hole_filled}
use Rattle.spade_dcel.specs.declared.operations.results.RemovalResult.{RemovalResult}

-- what comes after the half edges out of a vertex, clockwise, up to the one after h, which starts where h ends
abbrev pub border_from : Shape → ℕ → List ℕ
border_from s h = reverse (map (next_of s) (walk_of s (ccw_of s) h))

module _ {V DE UE F : Type 0} where
  -- what comes after the out edges of a vertex, clockwise, up to the one after its anchor
  abbrev pub border_round : Mesh V DE UE F → ℕ → List ℕ
  border_round m v = reverse (map (next_of m.shape) (out_edges_of m v))

  -- what is returned of the vertex v: its datum, and which vertex gets its number, the last one if that is another
  pub record Returns (old : Mesh V DE UE F) (v : ℕ) (taken : RemovalResult V) : Type 0 where
    pub datum : slice_get old.vertex_data v ≡ Some taken.removed_vertex
    pub moved : taken.swapped_in_vertex ≡ cond (v == old.shape.vertices - 1) None (Some (old.shape.vertices - 1))

  -- the hole round the vertex v, inside this border, is filled by edges that start where the last half edge of the border does; what was given
  -- up goes, and then the vertex: the last of each kind get the numbers
  pub record TakesOut (is_half : DE → Type 0) (is_edge : UE → Type 0) (is_face : F → Type 0) (border : List ℕ) (old new : Mesh V DE UE F) (v : ℕ) : Type 0 where
    pub filled : Mesh V DE UE F
    pub fills : FillsHole is_half is_edge is_face border filled (hole_filled old v border)
    pub is : new ≡ vertex_taken_out (cleaned_up filled) v

  -- no removal is open, v lies inside triangles alone, three or more, one half edge alone leads from it to where its anchor ends, and there are
  -- numbers for the edges and faces that fill the hole
  pub record CanRemoveVertex (m : Mesh V DE UE F) (v : ℕ) : Type 0 where
    pub closed : m.shape.removal ≡ Closed
    pub inside : IsBorderLoop m.shape (border_round m v) v
    pub room : HasRoom m.shape 0 (length (border_round m v) - 3) (length (border_round m v) - 2)

  -- each reason but the want of memory says what isn't so, and that none before it applies; some are never given
  abbrev pub MayNotRemove : Mesh V DE UE F → ℕ → WhyNotRemoved → Type 0
  MayNotRemove m v RemovalOpen = m.shape.removal ≢ Closed
  MayNotRemove m v NotInside = (m.shape.removal ≡ Closed) × ¬ IsBorderLoop m.shape (border_round m v) v
  MayNotRemove m v NoVertex = ⊥
  MayNotRemove m v LongFace = ⊥
  MayNotRemove m v CutVertex = ⊥
  MayNotRemove m v ShortBorder = ⊥
  MayNotRemove m v SecondEdge = ⊥
  MayNotRemove m v NoRoom = (m.shape.removal ≡ Closed) × IsBorderLoop m.shape (border_round m v) v
      × ¬ HasRoom m.shape 0 (length (border_round m v) - 3) (length (border_round m v) - 2)
  MayNotRemove m v OutOfMemory = Unit {0}
