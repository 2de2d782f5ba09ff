-- A list held twice: in ascending order, and as it was given.
use Rattle.std.specs.Prelude.{◌≡◌, ℕ, ◌/◌, List, length, take, drop}
use Rattle.dcel_maps.specs.Removals.{ascending}

abbrev pub first_half : List ℕ → List ℕ
first_half list = take (length list / 2) list

abbrev pub second_half : List ℕ → List ℕ
second_half list = drop (length list / 2) list

pub record IsTwice (list : List ℕ) : Type 0 where
  pub even : length (second_half list) ≡ length list / 2
  pub ascends : first_half list ≡ ascending (second_half list)
