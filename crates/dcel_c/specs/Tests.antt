-- Tests that need memory.
use Rattle.dcel_c.specs.Calls.{IsSo}
use Rattle.dcel_c.specs.Held.{Kept, State}
use Rattle.std.specs.Prelude.{◌≡◌, ◌≢◌, ◌≤◌, ◌⊎◌, ◌↔◌, ℕ, Bool, IsTrue, IsSome, None}

-- there is a mesh, and the answer is reported; or the status says that there is no memory or no mesh
pub record Answers (holds : State → Type 0) (kept : Kept) (before after : Bool) (status : ℕ) : Type 0 where
  pub done : status ≡ 0 → (IsTrue after ↔ IsSo holds kept)
  pub is_mesh : status ≡ 0 → IsSome kept
  pub untold : status ≢ 0 → after ≡ before
  pub no_mesh : status ≡ 21 → kept ≡ None
  pub number : (status ≡ 0) ⊎ ((20 ≤ status) × (status ≤ 21))
