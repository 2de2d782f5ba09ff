-- What holds of whatever is kept.
use Rattle.dcel_maps.specs.Shapes.{IsMesh}
use Rattle.dcel_c.specs.Held.{Kept}
use Rattle.std.specs.Prelude.{Some, None}

abbrev pub IsSoundIfKept : Kept → Type 0
IsSoundIfKept None = Unit {0}
IsSoundIfKept (Some mesh) = IsMesh mesh
