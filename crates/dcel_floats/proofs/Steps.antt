-- Sizes, steps and the finest step.
use Rattle.std.proofs.Common.{◌≡◌, ℕ, suc, ◌+◌, ◌-◌, ◌*◌, ◌^◌, ◌<◌, ◌≤◌, ◌⊎◌, inl, inr, ⊎_elim, arith, sym, ap, ◌∙◌}
use Rattle.std.proofs.Math.Nat.{pow-succ', mul-le-mul, mul-le-mul_right, mul_assoc, le_of_lt}
use Rattle.std.proofs.lemmas.Bool.{cases_lt}
use lib.Pow.{pow-add, pow_mono, pow_pos}

pub one_more : (k : ℕ) → 2 ^ suc k ≡ 2 * 2 ^ k
one_more k = pow-succ' 2 k

-- twice the mantissa and one power less
pub doubled : (m p : ℕ) → 0 < p → m * 2 * 2 ^ (p - 1) ≡ m * 2 ^ p
doubled m p h =
    let e : p ≡ suc (p - 1) = omega arith in
    mul_assoc m 2 (2 ^ (p - 1)) ∙ ap (λ (k : ℕ). m * k) (sym (one_more (p - 1))) ∙ ap (λ (k : ℕ). m * 2 ^ k) (sym e)

-- a mantissa below 2^53 is within its own power
pub within_own : (m p : ℕ) → m < 2 ^ 53 → m * 2 ^ p ≤ 2 ^ 53 * 2 ^ p
within_own m p h = mul-le-mul_right (2 ^ p) (le_of_lt h)

-- and 2^52 is within one less
pub within_less : (p : ℕ) → 0 < p → 2 ^ 52 * 2 ^ p ≤ 2 ^ 53 * 2 ^ (p - 1)
within_less p h = let e = doubled (2 ^ 52) p h in omega arith

-- no lesser power does
pub finest_of : (m p k : ℕ) → 2 ^ 52 < m → m * 2 ^ p ≤ 2 ^ 53 * 2 ^ k → p ≤ k
finest_of m p k large within = ⊎_elim (λ less. absurd (beyond less)) (λ past. past) (cases_lt k p)
  where
    beyond : k < p → ⊥
    beyond less =
        let e : 2 ^ suc k ≤ 2 ^ p = pow_mono less in
        let d : suc (2 ^ 52) * 2 ^ p ≤ m * 2 ^ p = mul-le-mul_right (2 ^ p) large in
        let some : 0 < 2 ^ p = pow_pos p in
        omega (arith, one_more k)

pub finest_of_half : (p k : ℕ) → 0 < p → 2 ^ 52 * 2 ^ p ≤ 2 ^ 53 * 2 ^ k → p - 1 ≤ k
finest_of_half p k h within = ⊎_elim (λ less. absurd (beyond less)) (λ past. past) (cases_lt k (p - 1))
  where
    beyond : k < p - 1 → ⊥
    beyond less =
        let e : 2 ^ suc k ≤ 2 ^ (p - 1) = pow_mono less in
        let d = doubled (2 ^ 52) p h in
        let some : 0 < 2 ^ k = pow_pos k in
        omega (arith, one_more k)

-- a size with a lower power than the step's
pub spread : (p k : ℕ) → p < k → 2 ^ k ≡ 2 ^ (k - p) * 2 ^ p
spread p k h = let e : k ≡ (k - p) + p = omega arith in ap (λ (j : ℕ). 2 ^ j) e ∙ pow-add 2 (k - p) p

-- and one with a higher
pub lifted : (m p k : ℕ) → k ≤ p → m * 2 ^ (p - k) * 2 ^ k ≡ m * 2 ^ p
lifted m p k h = let e : (p - k) + k ≡ p = omega arith in mul_assoc m (2 ^ (p - k)) (2 ^ k) ∙ ap (λ (j : ℕ). m * j) (sym (pow-add 2 (p - k) k) ∙ ap (λ (j : ℕ). 2 ^ j) e)

pub beyond : (m p k : ℕ) → k ≤ p → 2 ^ 53 < m * 2 ^ (p - k) → m * 2 ^ p ≤ 2 ^ 53 * 2 ^ k → ⊥
beyond m p k h large within =
    let more : suc (2 ^ 53) * 2 ^ k ≤ m * 2 ^ (p - k) * 2 ^ k = mul-le-mul_right (2 ^ k) large in
    let some : 0 < 2 ^ k = pow_pos k in
    omega (arith, lifted m p k h)

-- far powers
pub far_up : (n k : ℕ) → 0 < n → 53 < k → 2 ^ 53 < n * 2 ^ k
far_up n k some h =
    let one : 1 ≤ n = some in
    let e : 2 ^ 54 ≤ 2 ^ k = pow_mono h in
    let product : 1 * 2 ^ 54 ≤ n * 2 ^ k = mul-le-mul one e in
    omega arith

pub far_down : (n k : ℕ) → n < 2 ^ 53 → 54 < k → 2 * n < 2 ^ k
far_down n k few h = let e : 2 ^ 55 ≤ 2 ^ k = pow_mono h in omega arith

-- what is left where a number isn't 2^52 with a power above 0
pub finest_else : (m p k : ℕ) → ((m ≡ 2 ^ 52) × (p ≤ 0)) ⊎ (¬ (m ≡ 2 ^ 52)) → (p ≡ 0) ⊎ (2 ^ 52 ≤ m) → m * 2 ^ p ≤ 2 ^ 53 * 2 ^ k → p ≤ k
finest_else m p k (inl low) least within = omega (arith, low)
finest_else m p k (inr other) (inl low) within = omega arith
finest_else m p k (inr other) (inr large) within = finest_of m p k (omega (arith, other, large)) within

pub half_above : (k : ℕ) → 2 ^ 52 * 2 ^ (k + 1) ≡ 2 ^ 53 * 2 ^ k
half_above k = let e : 2 ^ (k + 1) ≡ 2 ^ suc k = ap (λ (j : ℕ). 2 ^ j) next in omega (arith, one_more k, e)
  where
    next : k + 1 ≡ suc k
    next = omega arith
