-- The numbers of a walk.
use Rattle.std.proofs.Common.{◌≡◌, ◌∷◌, [], ℕ, List, map, refl, ap}
use Rattle.dcel_maps.specs.Walking.{in_mesh}

pub numbers_in_mesh : {M : Type 0} → (m : M) (numbers : List ℕ) → map (λ edge. edge.1) (in_mesh m numbers) ≡ numbers
numbers_in_mesh m [] = refl
numbers_in_mesh m (n ∷ numbers) = ap (λ l. n ∷ l) (numbers_in_mesh m numbers)
