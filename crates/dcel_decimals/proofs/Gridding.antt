-- Decimals on grids.
use Rattle.std.proofs.Common.{◌≡◌, ℕ, ◌+◌, ◌*◌, ◌^◌, ◌<◌, ◌≤◌, ℤ, unsigned_abs, Bool, List, length, take, get_or, All, sym, ap, subst, ◌∙◌, arith}
use Rattle.std.proofs.Math.Nat.{le_trans, mul-le-mul_left}
use Rattle.std.proofs.lemmas.List.{take_all}
use Rattle.std.proofs.lemmas.List.Elements.{All-get_or, All-more, All-same, All-weaker}
use lib.Pow.{pow_mono}
use Rattle.dcel_floats.specs.Floats.{signed}
use Rattle.dcel_floats.specs.Rounding.{IsNearest, IsRounded, distance_of, error_of}
use Rattle.dcel_floats.proofs.Roundings.{error_signed, nearest_signed}
use Rattle.dcel_decimals.specs.declared.decimal.Decimal.{Decimal}
use Rattle.dcel_decimals.specs.declared.grid.Snapped.{Snapped}
use Rattle.dcel_decimals.specs.Floors.{IsShift}
use Rattle.dcel_decimals.specs.Grids.{FitsGrid, Snaps, number_of, step_of}

-- what fits a grid fits a coarser one
stays_fit : (k l : ℕ) → l ≤ k → (d : Decimal) → FitsGrid k d → FitsGrid l d
stays_fit k l h d fits = le_trans (mul-le-mul_left (unsigned_abs d.mantissa) (pow_mono h)) fits

-- one decimal more
module _ (ds : List Decimal) (i : ℕ) (d : Decimal) (here : i < length ds) (at : d ≡ get_or ds i d) where
  pub more_fit : (k l : ℕ) → l ≤ k → FitsGrid l d → All (FitsGrid k) (take i ds) → All (FitsGrid l) (take (i + 1) ds)
  more_fit k l below fits so_far = All-more (FitsGrid l) ds i d here (All-weaker (FitsGrid k) (FitsGrid l) (stays_fit k l below) (take i ds) so_far) (subst (FitsGrid l) at fits)

  pub own_fits : (k : ℕ) → All (FitsGrid k) ds → FitsGrid k d
  own_fits k all = subst (FitsGrid k) (sym at) (All-get_or (FitsGrid k) ds i d here all)

pub all_fit : (k : ℕ) (ds : List Decimal) (i : ℕ) → length ds ≤ i → All (FitsGrid k) (take i ds) → All (FitsGrid k) ds
all_fit k ds i past so_far = All-same (FitsGrid k) ds (take i ds) (sym (take_all i ds past)) so_far

-- any decimal fits the coarsest grid
pub fits_coarsest : (d : Decimal) → FitsGrid 0 d
fits_coarsest d = let h = d.in_range in omega (arith, h)

-- the sizes with their sign
pub snaps : (k : ℕ) (d : Decimal) (s : Snapped) (negative : Bool) (size steps : ℕ) → signed negative (size * 2 ^ k) ≡ number_of k d → signed negative steps ≡ s.steps
    → IsRounded (step_of d) (size * 2 ^ k) steps → IsShift (step_of d) (10 ^ d.places) (size * 2 ^ k) steps s.shift → Snaps k d s
snaps k d s negative size steps is named rounded shift =
    let e : error_of (step_of d) (number_of k d) s.steps ≡ distance_of (steps * step_of d) (size * 2 ^ k) =
    ap (λ (z : ℤ). error_of (step_of d) z s.steps) (sym is) ∙ ap (λ (z : ℤ). error_of (step_of d) (signed negative (size * 2 ^ k)) z) (sym named) ∙ error_signed negative (step_of d) (size * 2 ^ k) steps in record {
      nearest = subst (λ (z : ℤ). IsNearest (step_of d) z s.steps) is (subst (λ (z : ℤ). IsNearest (step_of d) (signed negative (size * 2 ^ k)) z) named (nearest_signed negative (step_of d) (size * 2 ^ k) steps rounded));
      enough = subst (λ (n : ℕ). n ≤ s.shift * 10 ^ d.places) (sym e) shift.enough;
      least = subst (λ (n : ℕ). s.shift * 10 ^ d.places < n + 10 ^ d.places) (sym e) shift.least;
    }
