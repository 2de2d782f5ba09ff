-- Marked edges.
use Rattle.std.specs.Prelude.{◌≡◌, ℕ, Bool, true, false, Some}
use Rattle.std.specs.List.{slice_get}
use Rattle.dcel_maps.specs.Shapes.{Mesh}
use Rattle.dcel_regions.specs.declared.mark.Mark.{Mark}
use Rattle.dcel_regions.specs.declared.mark.Mark.TheVariants.{Constraint, Free}

-- whether a mark is that of a constraint
abbrev pub is_constraint : Mark → Bool
is_constraint Constraint = true
is_constraint Free = false

-- the edge u is marked
abbrev pub IsMarked : {V DE F : Type 0} → Mesh V DE Mark F → ℕ → Type 0
IsMarked m u = slice_get m.undirected_data u ≡ Some Constraint
