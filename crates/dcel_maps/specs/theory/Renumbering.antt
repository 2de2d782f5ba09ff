-- Numbers before and after some are taken out.
use Rattle.std.specs.Prelude.{◌↔◌, ℕ, ◌-◌, ◌<◌, List, [], ◌∷◌}
use Rattle.dcel_maps.specs.Renumbering.{moved}
use Rattle.dcel_maps.specs.Words.{count_of}

-- the list goes down, from below n
abbrev pub GoesDown : ℕ → List ℕ → Type 0
GoesDown n [] = Unit {0}
GoesDown n (d ∷ ds) = (d < n) × GoesDown d ds

-- what passes the test, from the largest down
pub record ListsDown (passes : ℕ → Type 0) (n : ℕ) (ds : List ℕ) : Type 0 where
  pub down : GoesDown n ds
  pub each : (k : ℕ) → passes k ↔ (0 < count_of k ds)

-- which number was to become j, once each d of the list is taken out in turn
unfoldable pub old_number : ℕ → List ℕ → ℕ → ℕ
old_number n [] j = j
old_number n (d ∷ ds) j = moved d (n - 1) (old_number (n - 1) ds j)
