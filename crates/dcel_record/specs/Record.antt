-- The stored removal record, as contracts see it.
use Rattle.std.specs.Prelude.{ℕ, List}
use Rattle.dcel_record.specs.declared.RemovalState.{RemovalState}
use Rattle.dcel_record.specs.declared.RemovalState.TheVariants as states
use Rattle.dcel_record.specs.declared.State.{State}
use Rattle.dcel_record.specs.declared.State.TheVariants as stored
use Rattle.dcel_maps.specs.Removals.{Removal, Closed, Isolated, Cleaned}

-- its edges and faces are given up until they are cleaned up
abbrev pub removal_of : State → List ℕ → List ℕ → Removal
removal_of stored.Closed edges faces = Closed
removal_of (stored.Isolated vertex) edges faces = Isolated edges faces vertex
removal_of (stored.Cleaned vertex) edges faces = Cleaned vertex

-- how far a removal has come
abbrev pub state_of : Removal → RemovalState
state_of Closed = states.Closed
state_of (Isolated edges faces vertex) = states.Isolated
state_of (Cleaned vertex) = states.Cleaned
