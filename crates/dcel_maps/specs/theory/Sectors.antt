-- A border loop and a strip, sector by sector, as their tests go along them.
use Rattle.std.specs.Prelude.{◌≡◌, ◌≢◌, ℕ, ◌/◌, ◌<◌, ◌≤◌, List, [], ◌∷◌, length}
use Rattle.dcel_maps.specs.Conditions.{IsTriangle}
use Rattle.dcel_maps.specs.Shapes.{Shape, IsLive, face_of, next_of, origin_of, prev_of}
use Rattle.dcel_maps.specs.Walking.{ccw_of}
use Rattle.dcel_maps.specs.Words.{count_of}

-- x comes after h, which lies on an inner triangle
pub record IsSector (s : Shape) (h x : ℕ) : Type 0 where
  pub after : next_of s h ≡ x
  pub inner : 0 < face_of s h
  pub triangle : IsTriangle s (face_of s h)

-- turning leads from h to e, through sectors with these half edges, none of which starts at `apex`
abbrev pub Sectors : Shape → ℕ → ℕ → List ℕ → ℕ → Type 0
Sectors s apex h [] e = h ≡ e
Sectors s apex h (x ∷ r) e = IsSector s h x × (origin_of s x ≢ apex) × Sectors s apex (ccw_of s h) r e

-- a ring round v, (x, r)
pub record IsRingRound (s : Shape) (v x : ℕ) (r : List ℕ) : Type 0 where
  pub live : IsLive s x
  pub center : origin_of s (prev_of s x) ≡ v
  pub many : 2 ≤ length r
  pub first : IsSector s (prev_of s x) x
  pub others : Sectors s (origin_of s x) (ccw_of s (prev_of s x)) r (prev_of s x)

-- these edges and faces have the edge and the face of each half edge of a list
abbrev pub FindsEach : Shape → List ℕ → List ℕ → List ℕ → Type 0
FindsEach s edges faces w = (h : ℕ) → 0 < count_of h w → (0 < count_of (h / 2) edges) × (0 < count_of (face_of s h) faces)

-- a strip that ends with x: the spokes are the out edges beside the half edge before x
pub record IsStripFrom (s : Shape) (x : ℕ) (others : List ℕ) : Type 0 where
  pub live : IsLive s x
  pub outer : face_of s x ≡ 0
  pub long : next_of s x ≢ prev_of s x
  pub spokes : Sectors s (origin_of s (prev_of s x)) (ccw_of s (prev_of s x)) others (prev_of s x)
