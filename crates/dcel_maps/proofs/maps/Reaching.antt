-- What is reached by steps.
use Rattle.std.proofs.Common.{◌≡◌, ℕ, subst}
use Rattle.dcel_maps.specs.Maps.{Reaches}
use Rattle.dcel_maps.specs.Maps.Reaches.{go, here}

-- what one step reaches is reached
pub step : {R : ℕ → ℕ → Type 0} {x y : ℕ} → R x y → Reaches R x y
step s = go s here

-- what is the same is reached by no step
pub no_step : {R : ℕ → ℕ → Type 0} {x y : ℕ} → x ≡ y → Reaches R x y
no_step {R} {x} same = subst (Reaches R x) same here

-- one way after another
pub then : {R : ℕ → ℕ → Type 0} {x y z : ℕ} → Reaches R x y → Reaches R y z → Reaches R x z
then here w = w
then (go s v) w = go s (then v w)

-- where r x stands for x, and each step can be gone by new steps between what stands for its ends, so can the whole
pub reroutes : (R Q : ℕ → ℕ → Type 0) (P : ℕ → Type 0) (r : ℕ → ℕ) → ((x y : ℕ) → P x → R x y → P y)
    → ((x y : ℕ) → P x → R x y → Reaches Q (r x) (r y)) → {x y : ℕ} → P x → Reaches R x y → Reaches Q (r x) (r y)
reroutes R Q P r stays by p here = here
reroutes R Q P r stays by p (go s w) = then (by _ _ p s) (reroutes R Q P r stays by (stays _ _ p s) w)

-- what each step keeps, holds of all that is reached
pub reaches_stays : (R : ℕ → ℕ → Type 0) (P : ℕ → Type 0) → ((x y : ℕ) → P x → R x y → P y)
    → {x y : ℕ} → P x → Reaches R x y → P y
reaches_stays R P stays p here = p
reaches_stays R P stays p (go s w) = reaches_stays R P stays (stays _ _ p s) w
