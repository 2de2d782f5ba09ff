-- Why the faces of a mesh can't be listed as triangles.
use Rattle.std.specs.Prelude.{ℕ, ◌<◌}
use Rattle.dcel_exchange.specs.declared.triangles.TrianglesError.{TrianglesError}
use Rattle.dcel_exchange.specs.declared.triangles.TrianglesError.TheVariants.{NoTriangle, OutOfMemory}
use Rattle.dcel_maps.specs.Conditions.{IsTriangle}
use Rattle.dcel_maps.specs.Shapes.{Shape, face_count}

-- f is the first inner face that is no triangle
pub record IsFirstOther (s : Shape) (f : ℕ) : Type 0 where
  pub inner : 0 < f
  pub within : f < face_count s
  pub other : ¬ IsTriangle s f
  pub before : (g : ℕ) → 0 < g → g < f → IsTriangle s g

-- what a reason says is so
abbrev pub MayNotList : Shape → TrianglesError → Type 0
MayNotList s (NoTriangle f) = IsFirstOther s f
MayNotList s OutOfMemory = Unit {0}
