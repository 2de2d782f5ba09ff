-- What is kept once a `&mut` to the constrained triangulation has ended.
use Rattle.dcel_triangulations.specs.constrained.Held.{State, constrained_row}
use Rattle.dcel_triangulations.specs.contracts.constrained.held.Held.{the_row}
use Rattle.dcel_triangulations.specs.declared.constrained.held.Held.{Held}
use Rattle.std.specs.Borrow.{Lends, MutBor, Fml}
use Rattle.std.specs.Prelude.{Some}

-- the same pointer, with this one behind it
abbrev pub with_points : Held → State → Held
with_points held t = record { at = held.at; alloc = held.alloc; kept = Some t }

-- it ends with the last one behind the reference
abbrev pub LendsTriangulation : MutBor Held → MutBor State → Fml
LendsTriangulation held t = Lends the_row constrained_row held t (with_points held.now)
