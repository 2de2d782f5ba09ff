-- The half edges of a face, as a list.
use Rattle.std.specs.Prelude.{ℕ, List}
use Rattle.dcel_maps.specs.Shapes.{Mesh, face_anchor, next_of}
use Rattle.dcel_maps.specs.Walking.{walk_from}

module _ {V DE UE F : Type 0} where
  -- the walk by `next` from its anchor
  abbrev pub face_edges_of : Mesh V DE UE F → ℕ → List ℕ
  face_edges_of m f = walk_from m.shape (next_of m.shape) (face_anchor m f)
