-- Simple meshes, and flips that keep a mesh simple.
use Rattle.std.specs.Prelude.{◌≡◌, ℕ, ◌+◌, ◌*◌, ◌<◌}
use Rattle.dcel_maps.specs.Conditions.{CanFlip}
use Rattle.dcel_maps.specs.Shapes.{IsLive, Shape, end_of, face_of, origin_of, prev_of}
use Rattle.dcel_maps.specs.Walking.{Leads}

-- the edge u can be flipped and lies between two inner faces, and no half edge leads from one of the corners opposite it to the other
pub record CanFlipSimple (s : Shape) (u : ℕ) : Type 0 where
  pub can : CanFlip s u
  pub inner : 0 < face_of s (2 * u)
  pub inner_facing : 0 < face_of s (2 * u + 1)
  pub apart : (h : ℕ) → ¬ Leads s (origin_of s (prev_of s (2 * u))) (origin_of s (prev_of s (2 * u + 1))) h

-- no two edges join the same two vertices: a half edge is told by where it starts and ends
abbrev pub IsSimple : Shape → Type 0
IsSimple s = (h k : ℕ) → IsLive s h → IsLive s k → origin_of s h ≡ origin_of s k → end_of s h ≡ end_of s k → h ≡ k

-- no other half edge leads from where h starts to where it ends
abbrev pub IsOnly : Shape → ℕ → Type 0
IsOnly s h = (k : ℕ) → IsLive s k → origin_of s k ≡ origin_of s h → end_of s k ≡ end_of s h → k ≡ h

-- an edge joins v and w
abbrev pub AreJoined : Shape → ℕ → ℕ → Type 0
AreJoined s v w = (h : ℕ) × Leads s v w h
