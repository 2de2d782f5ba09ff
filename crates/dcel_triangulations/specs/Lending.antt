-- What is kept once a `&mut` to the triangulation has ended.
use Rattle.dcel_triangulations.specs.Held.{State, points_row}
use Rattle.dcel_triangulations.specs.contracts.held.Held.{the_row}
use Rattle.dcel_triangulations.specs.declared.held.Held.{Held}
use Rattle.std.specs.Borrow.{Lends, MutBor, Fml}
use Rattle.std.specs.Prelude.{Some}

-- the same pointer, with this triangulation behind it
abbrev pub with_points : Held → State → Held
with_points held t = record { at = held.at; alloc = held.alloc; kept = Some t }

-- it ends with the last triangulation behind the reference
abbrev pub LendsTriangulation : MutBor Held → MutBor State → Fml
LendsTriangulation held t = Lends the_row points_row held t (with_points held.now)
