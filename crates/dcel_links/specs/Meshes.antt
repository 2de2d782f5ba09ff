-- Meshes that have claimed links.
use Rattle.std.specs.Prelude.{◌≡◌, ℕ, ◌*◌, ◌<◌, slice_index}
use Rattle.dcel_maps.specs.Removals.{Closed}
use Rattle.dcel_maps.specs.Shapes.{IsMesh, Mesh, Shape, face_count, face_of, next_of}
use Rattle.dcel_links.specs.Claims.{Claim, HasLists, halves}

-- no removal is open, there are as many vertices, edges and faces, and each half edge leads on, starts and lies as the lists say
pub record IsLinked (s : Shape) (c : Claim) : Type 0 where
  pub closed : s.removal ≡ Closed
  pub lists : HasLists c
  pub vertices : s.vertices ≡ c.vertices
  pub half_edges : 2 * s.edges ≡ halves c
  pub faces : face_count s ≡ c.faces
  pub next : (h : ℕ) → h < halves c → next_of s h ≡ slice_index c.next h
  pub origin : s.origins ≡ c.origin
  pub face : (h : ℕ) → h < halves c → face_of s h ≡ slice_index c.face h

-- no mesh has these links, whatever its data
abbrev pub NoMesh : Type 0 → Type 0 → Type 0 → Type 0 → Claim → Type 0
NoMesh V DE UE F c = (m : Mesh V DE UE F) → IsMesh m → ¬ IsLinked m.shape c
