-- When a vertex can be put into a triangle, and why not.
use Rattle.std.specs.Prelude.{◌≡◌, ◌≢◌, ℕ, ◌<◌}
use Rattle.dcel_convenience.specs.declared.inserting.WhyNotInserted.{WhyNotInserted}
use Rattle.dcel_convenience.specs.declared.inserting.WhyNotInserted.TheVariants.{NoRoom, NoTriangle, OutOfMemory, RemovalOpen}
use Rattle.dcel_maps.specs.Conditions.{HasRoom, IsTriangle}
use Rattle.dcel_maps.specs.Removals.{Closed}
use Rattle.dcel_maps.specs.Shapes.{Shape}

-- no removal is open, f is an inner triangle, and there are numbers for a vertex, three edges and two faces
pub record CanInsertVertex (s : Shape) (f : ℕ) : Type 0 where
  pub closed : s.removal ≡ Closed
  pub inner : 0 < f
  pub triangle : IsTriangle s f
  pub room : HasRoom s 1 3 2

-- each reason holds, and none above it does
abbrev pub MayNotInsert : Shape → ℕ → WhyNotInserted → Type 0
MayNotInsert s f RemovalOpen = s.removal ≢ Closed
MayNotInsert s f NoTriangle = (s.removal ≡ Closed) × ¬ ((0 < f) × IsTriangle s f)
MayNotInsert s f NoRoom = (s.removal ≡ Closed) × (0 < f) × IsTriangle s f × ¬ HasRoom s 1 3 2
MayNotInsert s f OutOfMemory = CanInsertVertex s f
