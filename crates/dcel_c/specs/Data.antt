-- Data of the elements of what is kept.
use Rattle.dcel_maps.specs.Shapes.{Shape}
use Rattle.dcel_c.specs.Held.{Kept, State}
use Rattle.std.specs.Prelude.{ℕ, List, Some, None, nat_lt, slice_index_or, if◌then◌else◌}

-- the datum of the element n of so many, or what stood there before if there is no such element
abbrev pub datum_in : (Shape → ℕ) → (State → List ℕ) → Kept → ℕ → ℕ → ℕ
datum_in count list None n before = before
datum_in count list (Some mesh) n before = if nat_lt n (count mesh.shape) then slice_index_or (list mesh) n before else before

-- what is kept with another datum of the element n of so many, if there is such an element
abbrev pub updated_in : (Shape → ℕ) → (State → ℕ → ℕ → State) → Kept → ℕ → ℕ → Kept
updated_in count updated None n datum = None
updated_in count updated (Some mesh) n datum = if nat_lt n (count mesh.shape) then Some (updated mesh n datum) else Some mesh
