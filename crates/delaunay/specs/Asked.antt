-- What the program is asked for.
use Rattle.std.specs.Prelude.{◌≡◌, None, false}
use Rattle.delaunay.specs.declared.arguments.Arguments.{Arguments}

-- no points are added
pub record AddsNone (a : Arguments) : Type 0 where
  pub refine : a.refine ≡ None
  pub splits : a.splits_crossings ≡ false
