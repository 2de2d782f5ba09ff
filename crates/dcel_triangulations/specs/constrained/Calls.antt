-- What calls find of a constrained triangulation.
use Rattle.dcel_planar.specs.Outcomes.{IsWholeMesh}
use Rattle.dcel_triangulations.specs.constrained.Held.{Kept, State}
use Rattle.dcel_triangulations.specs.declared.constrained.triangulation.DcelConstrained.{DcelConstrained}

-- the one that C's pointer leads to
abbrev pub kept_in : DcelConstrained → Kept
kept_in t = t.held.kept

-- nothing in it is left undone
abbrev pub IsWhole : State → Type 0
IsWhole t = IsWholeMesh t.planar
