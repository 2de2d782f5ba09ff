-- What is kept once a `&mut` to the desk has ended.
use Rattle.mesh_page.specs.Held.{State, desk_row}
use Rattle.mesh_page.specs.contracts.held.Held.{the_row}
use Rattle.mesh_page.specs.declared.held.Held.{Held}
use Rattle.std.specs.Borrow.{Lends, MutBor, Fml}
use Rattle.std.specs.Prelude.{Some}

-- the same pointer, with this desk behind it
abbrev pub with_desk : Held → State → Held
with_desk held d = record { at = held.at; kept = Some d }

-- it ends with the last desk behind the reference
abbrev pub LendsDesk : MutBor Held → MutBor State → Fml
LendsDesk held d = Lends the_row desk_row held d (with_desk held.now)
