-- The corners of the faces of a mesh.
use Rattle.std.specs.Prelude.{◌≡◌, ℕ, ◌+◌, ◌<◌, List, [], length, map, slice_index_or}
use Rattle.dcel_maps.specs.Shapes.{Mesh, Shape, face_count, origin_of}
use Rattle.dcel_maps.specs.Words.{TurnsTo, word_of}
use Rattle.spade_dcel.specs.Faces.{face_edges_of}

-- where the half edges of the face f start, from its anchor on
abbrev pub corners_round : {V DE UE F : Type 0} → Mesh V DE UE F → ℕ → List ℕ
corners_round m f = map (origin_of m.shape) (face_edges_of m f)

-- The first list has the corners of face 1, the next one those of face 2, and so on up to the last face: where the half edges of the face
-- start, as its word leads round it.
pub record AreCorners (s : Shape) (lists : List (List ℕ)) : Type 0 where
  pub as_many : length lists + 1 ≡ face_count s
  pub each : (f : ℕ) → f < length lists → (w : List ℕ) × TurnsTo (word_of s.words (f + 1)) w × (slice_index_or lists f [] ≡ map (origin_of s) w)
