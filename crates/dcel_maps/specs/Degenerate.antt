-- Degenerate meshes: one vertex alone, or a path; what `remove_when_degenerate` asks.
use Rattle.std.specs.Prelude.{◌≡◌, ◌⊎◌, ℕ, ◌<◌}
use Rattle.dcel_maps.specs.Removals.{Closed}
use Rattle.dcel_maps.specs.Shapes.{Shape, face_count}
use Rattle.dcel_maps.specs.Walking.{IsOutEdge}

-- the live half edges that start at v are h and k, which may be one
pub record IsOutPair (s : Shape) (v h k : ℕ) : Type 0 where
  pub first : IsOutEdge s v h
  pub second : IsOutEdge s v k
  pub only : (x : ℕ) → IsOutEdge s v x → (x ≡ h) ⊎ (x ≡ k)

abbrev pub HasFewOutEdges : Shape → ℕ → Type 0
HasFewOutEdges s v = (h : ℕ) × (k : ℕ) × IsOutPair s v h k

-- one face, and one or two out edges at each vertex
pub record IsPath (s : Shape) : Type 0 where
  pub one_face : face_count s ≡ 1
  pub few : (v : ℕ) → v < s.vertices → HasFewOutEdges s v

-- no removal is open, and v is the only vertex, or one of a path
pub record CanRemoveDegenerate (s : Shape) (v : ℕ) : Type 0 where
  pub within : v < s.vertices
  pub closed : s.removal ≡ Closed
  pub shape : (s.vertices ≡ 1) ⊎ IsPath s
