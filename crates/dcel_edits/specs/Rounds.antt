-- Stored links that lead from a half edge back to it, and lists written all the way.
use Rattle.std.specs.Prelude.{◌≡◌, ℕ, ◌<◌, List, [], fold, slice_set, Option, Some, None}
use Rattle.dcel_maps.specs.Walking.{IsRoundTrip}
use Rattle.dcel_maps.specs.Walks.{walk}
use Rattle.dcel_maps.specs.Words.{count_of}

-- a list where the items at these places are v
abbrev pub all_set : List ℕ → List ℕ → ℕ → List ℕ
all_set l places v = fold (λ so_far place. slice_set so_far place v) l places

-- the half edges that a step leads through from an anchor on, where so many are stored
abbrev pub round_from : (ℕ → ℕ) → ℕ → Option ℕ → List ℕ
round_from step halves None = []
round_from step halves (Some h) = walk step halves h

-- a step leads from a half edge back to it, through half edges that are stored, and the step back undoes it there
pub record ComesBack (step step_back : ℕ → ℕ) (halves h : ℕ) : Type 0 where
  pub trip : IsRoundTrip step h (round_from step halves (Some h))
  pub stored : (k : ℕ) → 0 < count_of k (round_from step halves (Some h)) → k < halves
  pub undone : (k : ℕ) → 0 < count_of k (round_from step halves (Some h)) → step_back (step k) ≡ k

-- and from an anchor, if there is one
abbrev pub AnchorComesBack : (ℕ → ℕ) → (ℕ → ℕ) → ℕ → Option ℕ → Type 0
AnchorComesBack step step_back halves None = Unit {0}
AnchorComesBack step step_back halves (Some h) = ComesBack step step_back halves h
