-- Meshes that grow: by how many elements, and how their inner faces stay triangles.
use Rattle.std.specs.Prelude.{◌≡◌, ℕ, ◌+◌, ◌<◌, length}
use Rattle.dcel_fixed.specs.HalfEdges.{rev}
use Rattle.dcel_maps.specs.Removals.{Closed}
use Rattle.dcel_maps.specs.Shapes.{Shape, IsLive, face_count, face_of}
use Rattle.dcel_maps.specs.Words.{word_of}

-- no removal is open, there is an inner face, and each inner face has three half edges
pub record IsTriangulated (s : Shape) : Type 0 where
  pub closed : s.removal ≡ Closed
  pub inner : 1 < face_count s
  pub three : (f : ℕ) → 0 < f → f < face_count s → length (word_of s.words f) ≡ 3

-- t has so many more vertices, edges and faces than s
pub record IsGrown (s : Shape) (more_vertices more_edges more_faces : ℕ) (t : Shape) : Type 0 where
  pub vertices : t.vertices ≡ s.vertices + more_vertices
  pub edges : t.edges ≡ s.edges + more_edges
  pub faces : face_count t ≡ face_count s + more_faces

-- h is live, with an inner face on both sides
pub record IsInside (s : Shape) (h : ℕ) : Type 0 where
  pub live : IsLive s h
  pub face : 0 < face_of s h
  pub facing : 0 < face_of s (rev h)
