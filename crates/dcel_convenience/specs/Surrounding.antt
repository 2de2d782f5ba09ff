-- What lies around a vertex.
use Rattle.std.specs.Prelude.{◌≡◌, ◌≢◌, ℕ, ◌<◌}
use Rattle.dcel_convenience.specs.declared.surrounding.Surroundings.{Surroundings}
use Rattle.dcel_convenience.specs.declared.surrounding.Surroundings.TheVariants.{Border, CutVertex, LongFace, Nothing, Triangles}
use Rattle.dcel_maps.specs.Conditions.{IsTriangle}
use Rattle.dcel_maps.specs.Shapes.{Shape, face_of}
use Rattle.dcel_maps.specs.Walking.{IsOutEdge}

-- the face of h is an inner triangle
pub record IsInTriangle (s : Shape) (h : ℕ) : Type 0 where
  pub inner : 0 < face_of s h
  pub triangle : IsTriangle s (face_of s h)

-- all faces around v are inner triangles
abbrev pub IsInside : Shape → ℕ → Type 0
IsInside s v = (h : ℕ) → IsOutEdge s v h → IsInTriangle s h

-- the same of a vertex with an edge
abbrev pub IsSurrounded : Shape → ℕ → Type 0
IsSurrounded s v = ((h : ℕ) × IsOutEdge s v h) × IsInside s v

-- h alone of the out edges of v is outer, and its other faces are inner triangles
pub record IsOnBorder (s : Shape) (v h : ℕ) : Type 0 where
  pub out : IsOutEdge s v h
  pub outer : face_of s h ≡ 0
  pub others : (x : ℕ) → IsOutEdge s v x → x ≢ h → IsInTriangle s x

-- two out edges of v are outer
pub record IsCut (s : Shape) (v : ℕ) : Type 0 where
  pub one : ℕ
  pub other : ℕ
  pub apart : one ≢ other
  pub one_out : IsOutEdge s v one
  pub other_out : IsOutEdge s v other
  pub one_outer : face_of s one ≡ 0
  pub other_outer : face_of s other ≡ 0

-- the face of h is inner, and no triangle
pub record IsInLongFace (s : Shape) (h : ℕ) : Type 0 where
  pub inner : 0 < face_of s h
  pub long : ¬ IsTriangle s (face_of s h)

-- an inner face at v is no triangle
abbrev pub HasLongFace : Shape → ℕ → Type 0
HasLongFace s v = (h : ℕ) × IsOutEdge s v h × IsInLongFace s h

-- what is reported of the vertex v is so, and of a cut vertex with a long face the face is reported
abbrev pub Surrounds : Shape → ℕ → Surroundings → Type 0
Surrounds s v Nothing = (h : ℕ) → ¬ IsOutEdge s v h
Surrounds s v Triangles = IsSurrounded s v
Surrounds s v (Border h) = IsOnBorder s v h
Surrounds s v CutVertex = IsCut s v × ¬ HasLongFace s v
Surrounds s v LongFace = HasLongFace s v
