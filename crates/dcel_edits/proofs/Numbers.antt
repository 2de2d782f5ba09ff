-- The numbers of the half edges that are written one after another, and of the places that are left.
use Rattle.std.proofs.Common.{◌≡◌, ℕ, ◌+◌, ◌-◌, ◌*◌, arith}

-- the halves of the second and of the third new edge after m
pub second_half : (m : ℕ) → 2 * (m + 1) ≡ 2 * m + 2
second_half m = omega arith

pub second_back : (m : ℕ) → 2 * m + 2 + 1 ≡ 2 * m + 3
second_back m = omega arith

pub third_half : (m : ℕ) → 2 * (m + 2) ≡ 2 * m + 4
third_half m = omega arith

pub third_back : (m : ℕ) → 2 * m + 4 + 1 ≡ 2 * m + 5
third_back m = omega arith

-- places taken one at a time
pub two_places : (places : ℕ) → places - 1 - 1 ≡ places - 2
two_places places = omega arith
