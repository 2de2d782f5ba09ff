-- What is kept once a `&mut` to the mesh has ended.
use Rattle.dcel_c.specs.Held.{State, mesh_row}
use Rattle.dcel_c.specs.contracts.held.Held.{the_row}
use Rattle.dcel_c.specs.declared.held.Held.{Held}
use Rattle.std.specs.Borrow.{Lends, MutBor, Fml}
use Rattle.std.specs.Prelude.{Some}

-- the same pointer, with this mesh behind it
abbrev pub with_mesh : Held → State → Held
with_mesh held mesh = record { at = held.at; alloc = held.alloc; kept = Some mesh }

-- it ends with the last mesh behind the reference
abbrev pub LendsMesh : MutBor Held → MutBor State → Fml
LendsMesh held mesh = Lends the_row mesh_row held mesh (with_mesh held.now)
