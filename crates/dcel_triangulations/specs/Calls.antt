-- What calls find, and what they answer.
use Rattle.dcel_planar.specs.Outcomes.{IsWholeMesh}
use Rattle.dcel_triangulations.specs.Held.{Kept, State}
use Rattle.dcel_triangulations.specs.declared.triangulation.DcelTriangulation.{DcelTriangulation}
use Rattle.std.specs.Prelude.{ℕ, ◌-◌, ◌^◌, Option, Some, None}

-- the triangulation that C's pointer leads to
abbrev pub kept_in : DcelTriangulation → Kept
kept_in t = t.held.kept

-- what answers where there is no element
abbrev pub nowhere : ℕ
nowhere = 2 ^ 64 - 1

-- nothing in it is left undone
abbrev pub IsWhole : State → Type 0
IsWhole t = IsWholeMesh t.planar

-- there is one, and this is so of it
abbrev pub IsSo : {T : Type 0} → (T → Type 0) → Option T → Type 0
IsSo holds None = ⊥
IsSo holds (Some t) = holds t

-- there was one and there is one, and this is so of both
abbrev pub AreSo : {S T : Type 0} → (S → T → Type 0) → Option S → Option T → Type 0
AreSo holds None new = ⊥
AreSo holds (Some old) new = IsSo (holds old) new
