-- Walks into a buffer.
use Rattle.dcel_maps.specs.Shapes.{Shape}
use Rattle.dcel_c.specs.Held.{Kept, State}
use Rattle.dcel_c.specs.Lists.{buffer_status}
use Rattle.std.specs.Prelude.{ℕ, List, [], Some, None, nat_lt, if◌then◌else◌}

-- the walk of the element n of so many, and nothing where there is no such element
abbrev pub walk_in : (Shape → ℕ) → (State → ℕ → List ℕ) → Kept → ℕ → List ℕ
walk_in count walk None n = []
walk_in count walk (Some mesh) n = if nat_lt n (count mesh.shape) then walk mesh n else []

-- the status of such a walk, for so many half edges and so much room
abbrev pub walk_status : (Shape → ℕ) → ℕ → Kept → ℕ → ℕ → ℕ → ℕ
walk_status count no_such None n needed room = 21
walk_status count no_such (Some mesh) n needed room = if nat_lt n (count mesh.shape) then buffer_status needed room else no_such
