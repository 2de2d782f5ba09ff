-- The sizes of blocks: they are units of 16 bytes, and a request has one alone.
use Rattle.std.proofs.Common.{◌≡◌, ℕ, ◌+◌, ◌-◌, ◌*◌, ◌/◌, ◌%◌, ◌^◌, ◌<◌, ◌≤◌, max, refl, ap, ◌∙◌, subst, arith, ltb, ltb→lt, nltb→le, pow_mono, pow-add}
use Rattle.std.specs.Int.{IsPowerOfTwo, IsNextPowerOfTwo}
use Rattle.lent_heap.specs.Blocks.{IsBlockSize}
use lib.Dec.{not_T}

power_below : (k : ℕ) → k < 4 → 2 ^ k < 16
power_below k small = let most : 2 ^ k ≤ 2 ^ 3 = pow_mono {i = k} {j = 3} (omega arith) in omega arith

power_of_units : (n : ℕ) → IsPowerOfTwo n → 16 ≤ n → n % 16 ≡ 0
power_of_units n power large =
    let k = power.0 in
    let high : 4 ≤ k = nltb→le k 4 (not_T (ltb k 4) (λ t. omega (arith, power.1, power_below k (ltb→lt k 4 t)))) in
    let parts : 2 ^ k ≡ 2 ^ (k - 4) * 16 = ap (λ (j : ℕ). 2 ^ j) (omega arith) ∙ pow-add 2 (k - 4) 4 in
    omega (arith, power.1)

-- of two powers of two the lesser one is at most half of the other
half : (p q : ℕ) → IsPowerOfTwo p → IsPowerOfTwo q → p < q → 2 * p ≤ q
half p q is_p is_q less =
    let k = is_p.0 in let j = is_q.0 in
    let higher : k + 1 ≤ j = nltb→le j (k + 1) (not_T (ltb j (k + 1)) (λ t.
    let low : 2 ^ j ≤ 2 ^ k = pow_mono {i = j} {j = k} (let below = ltb→lt j (k + 1) t in omega (arith, below)) in
    omega (arith, is_p.1, is_q.1, low, less))) in
    let twice : 2 ^ (k + 1) ≡ 2 ^ k * 2 = pow-add 2 k 1 in
    let most : 2 ^ (k + 1) ≤ 2 ^ j = pow_mono {i = k + 1} {j = j} higher in
    omega (arith, is_p.1, is_q.1, twice, most)

no_less : (n p q : ℕ) → IsNextPowerOfTwo n p → IsNextPowerOfTwo n q → p ≤ q
no_less n p q is_p is_q = nltb→le q p (not_T (ltb q p) (λ t.
    let twice = half q p is_q.0 is_p.0 (ltb→lt q p t) in
    let least = is_p.2 in let enough = is_q.1 in
    let some : 1 ≤ q = (let most : 2 ^ 0 ≤ 2 ^ is_q.0.0 = pow_mono {i = 0} {j = is_q.0.0} (omega arith) in omega (arith, is_q.0.1, most)) in
    omega (arith, twice, least, enough, some)))

pub large : (n m : ℕ) → IsBlockSize n m → 16 ≤ m
large n m is = let enough = is.1 in omega (arith, enough)

pub holds : (n m : ℕ) → IsBlockSize n m → n ≤ m
holds n m is = let enough = is.1 in omega (arith, enough)

pub whole : (n m : ℕ) → IsBlockSize n m → m % 16 ≡ 0
whole n m is = power_of_units m is.0 (large n m is)

pub one_size : (n m k : ℕ) → IsBlockSize n m → IsBlockSize n k → m ≡ k
one_size n m k is_m is_k =
    let up = no_less (max n 16) m k is_m is_k in
    let down = no_less (max n 16) k m is_k is_m in
    omega (arith, up, down)

-- what `next_power_of_two` makes of the request, raised to 16
pub is_size : (n x m : ℕ) → x ≡ max n 16 → IsPowerOfTwo m → x ≤ m → m / 2 < max 1 x → IsBlockSize n m × (m % 16 ≡ 0) × (16 ≤ m)
is_size n x m raised power enough least =
    let is : IsBlockSize n m = subst (λ (k : ℕ). IsNextPowerOfTwo k m) raised (power, enough, least) in
    (is, whole n m is, large n m is)

-- a power of two above half of n is at most n where the next one is above n
pub is_within : (n m : ℕ) → 16 ≤ n → IsPowerOfTwo m → n / 2 + 1 ≤ m → m / 2 < max 1 (n / 2 + 1) → (m ≤ n) × (m % 16 ≡ 0)
is_within n m enough power above least =
    let whole_m : m % 16 ≡ 0 = power_of_units m power (half 8 m (3, refl) power (omega (arith, enough, above))) in
    (omega (arith, whole_m, least), whole_m)
