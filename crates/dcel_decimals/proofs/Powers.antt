-- Products with powers of ten.
use Rattle.std.proofs.Common.{◌≡◌, ℕ, zero, suc, ◌+◌, ◌-◌, ◌*◌, ◌^◌, ◌<◌, ◌≤◌, ◌/◌, ◌%◌, ap, ◌∙◌, arith, lit<, refl}
use Rattle.std.proofs.Math.Nat.{pow-suc, one-le-pow, pow-le-pow_right, mul-le-mul_left, mul-le-mul_right, le_of_mul-le-mul_right}
use Rattle.std.proofs.lemmas.Nat.{pow-add}

-- one more factor
pub times_ten : (n k : ℕ) → n * 10 ^ suc k ≡ (n * 10 ^ k) * 10
times_ten n k = let e = ap (λ z. n * z) (pow-suc 10 k) in omega arith

pub some : (k : ℕ) → 1 ≤ 10 ^ k
some k = one-le-pow k 10 (lit< tt)

pub larger : (n k : ℕ) → n ≤ n * 10 ^ k
larger n k = omega (arith, mul-le-mul_left n (some k))

-- powers put together
pub twice : (n i j k : ℕ) → k ≡ i + j → n * 10 ^ k ≡ (n * 10 ^ i) * 10 ^ j
twice n i j k h = let e = ap (λ z. n * z) (ap (λ (z : ℕ). 10 ^ z) h ∙ pow-add 10 i j) in omega arith

-- a factor taken away
pub cancelled : (a b k : ℕ) → a * 10 ^ k ≡ b * 10 ^ k → a ≡ b
cancelled a b k e =
    let h = some k in
    let f : a ≤ b = le_of_mul-le-mul_right {k = 10 ^ k} (omega arith) (omega arith) in
    let g : b ≤ a = le_of_mul-le-mul_right {k = 10 ^ k} (omega arith) (omega arith) in
    omega arith

-- q, which has no zero at its end, is what stands before the zeros of a number
pub keeps : (q s m t : ℕ) → 0 < q → (q % 10 ≡ 0 → q ≡ 0) → q * 10 ^ s ≡ m * 10 ^ t → (t ≤ s) × (q ≤ m)
keeps q zero m zero p n e = (omega arith, omega arith)
keeps q zero m (suc t) p n e =
    let h = times_ten m t in
    let d : q % 10 ≡ 0 = omega arith in
    let z = n d in
    (absurd (omega arith), absurd (omega arith))
keeps q (suc s) m zero p n e = let h = larger q (suc s) in (omega arith, omega arith)
keeps q (suc s) m (suc t) p n e =
    let h = times_ten q s in
    let k = times_ten m t in
    let same : q * 10 ^ s ≡ m * 10 ^ t = omega arith in
    let r = keeps q s m t p n same in
    (omega (arith, r.0), r.1)

-- powers above the twenty-fourth make more than 25 digits
pub beyond : (n k : ℕ) → 1 ≤ n → 25 ≤ k → 10 ^ 25 ≤ n * 10 ^ k
beyond n k h l =
    let large : 10 ^ 25 ≤ 10 ^ k = pow-le-pow_right (lit< tt) {i = 25} l in
    let more = mul-le-mul_right (10 ^ k) h in
    omega arith

-- one more factor, as the code counts
pub one_more : (n k : ℕ) → n * 10 ^ (k + 1) ≡ (n * 10 ^ k) * 10
one_more n k = let e = twice n k 1 (k + 1) refl in omega arith

-- a zero at the end taken away
pub zero_taken : (s n p k : ℕ) → s % 10 ≡ 0 → 0 < p → s * k ≡ n * 10 ^ p → (s / 10) * k ≡ n * 10 ^ (p - 1)
zero_taken s n p k z h e =
    let ten : s ≡ (s / 10) * 10 = omega arith in
    let f = ap (λ (x : ℕ). x * k) ten in
    let g = ap (λ (x : ℕ). n * 10 ^ x) (let same : p ≡ (p - 1) + 1 = omega arith in same) ∙ one_more n (p - 1) in
    omega arith
