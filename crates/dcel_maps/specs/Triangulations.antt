-- Meshes whose inner faces are triangles.
use Rattle.std.specs.Prelude.{◌≡◌, ℕ, ◌<◌, true, length}
use Rattle.dcel_maps.specs.Shapes.{Mesh, Shape, face_is_live}
use Rattle.dcel_maps.specs.Words.{word_of}

-- each live inner face has a word of three half edges
abbrev pub AllTriangles : Shape → Type 0
AllTriangles s = (f : ℕ) → 0 < f → face_is_live s f ≡ true → length (word_of s.words f) ≡ 3

-- where that is so before an edit, it is so after it
abbrev pub KeepsTriangles : {V DE UE F V' DE' UE' F' : Type 0} → Mesh V DE UE F → Mesh V' DE' UE' F' → Type 0
KeepsTriangles before after = AllTriangles before.shape → AllTriangles after.shape
