-- Checked meshes: what `sanity_check` looks at.
use Rattle.std.specs.Prelude.{◌≡◌, ◌≢◌, ◌⊎◌, ℕ, ◌+◌, ◌*◌, ◌<◌, ◌≤◌, true, length}
use Rattle.dcel_maps.specs.Conditions.{IsUnconnected}
use Rattle.dcel_maps.specs.Removals.{Closed}
use Rattle.dcel_maps.specs.Shapes.{Shape, edge_is_live, face_of, face_count}
use Rattle.dcel_maps.specs.Words.{word_of}

-- the even half of the edge u lies on a word of three, if on an inner face
abbrev pub EvenHalfFits : Shape → ℕ → Type 0
EvenHalfFits s u = face_of s (2 * u) ≢ 0 → length (word_of s.words (face_of s (2 * u))) ≡ 3

-- the edge u has two faces
abbrev pub PartsFaces : Shape → ℕ → Type 0
PartsFaces s u = face_of s (2 * u) ≢ face_of s (2 * u + 1)

-- an edge stands, no vertex is unconnected, the even half edges on inner faces lie on words of three, and with more than one face
-- no edge has one face on both sides
pub record LooksTriangulated (s : Shape) : Type 0 where
  pub some_edge : 0 < s.edges
  pub connected : (v : ℕ) → ¬ IsUnconnected s v
  pub triangles : (u : ℕ) → edge_is_live s u ≡ true → EvenHalfFits s u
  pub two_faces : 1 < face_count s → (u : ℕ) → edge_is_live s u ≡ true → PartsFaces s u

-- no removal is open, and a mesh of more than one vertex looks triangulated
pub record IsChecked (s : Shape) : Type 0 where
  pub closed : s.removal ≡ Closed
  pub looks : (s.vertices ≤ 1) ⊎ LooksTriangulated s
