-- Numbers of steps, halved while they are even.
use Rattle.std.proofs.Common.{◌≡◌, ℕ, suc, ◌+◌, ◌-◌, ◌*◌, ◌/◌, ◌%◌, ◌^◌, ◌<◌, ◌≤◌, ◌⊎◌, inl, inr, ⊎_elim, sym, ap, ◌∙◌, arith, lit<}
use Rattle.std.proofs.Math.Nat.{mod-lt, mul-le-mul, mul_assoc, pow-le-pow_right, pow-succ', div-lt_iff_lt-mul}
use Rattle.std.proofs.lemmas.Bool.{cases_eq}
use lib.Pow.{pow-add, pow_mono, pow_pos}

-- a power of two as the machine has it
pub unit_is : (k : ℕ) → k ≤ 106 → 1 * 2 ^ k % 2 ^ 128 ≡ 2 ^ k
unit_is k h =
    let few : 2 ^ k ≤ 2 ^ 106 = pow_mono h in
    let small : 2 ^ k < 2 ^ 128 = omega (arith, few) in
    omega (arith, small)

one_more : (k : ℕ) → 0 < k → 2 ^ k ≡ 2 * 2 ^ (k - 1)
one_more k h = let e : k ≡ suc (k - 1) = omega arith in ap (λ (j : ℕ). 2 ^ j) e ∙ pow-succ' 2 (k - 1)

-- an even size halved, and one place less
pub halved_once : (size places size' left : ℕ) → size % 2 ≡ 0 → 0 < left → size * 2 ^ places ≡ size' * 2 ^ left → size / 2 * 2 ^ places ≡ size' * 2 ^ (left - 1)
halved_once size places size' left even some is =
    let two : size ≡ 2 * (size / 2) = omega (arith, even) in
    let left_side : size * 2 ^ places ≡ 2 * (size / 2 * 2 ^ places) = ap (λ (k : ℕ). k * 2 ^ places) two ∙ mul_assoc 2 (size / 2) (2 ^ places) in
    let right : size' * 2 ^ left ≡ 2 * (size' * 2 ^ (left - 1)) = ap (λ (k : ℕ). size' * k) (one_more left some) ∙ spread size' (2 ^ (left - 1)) in
    omega (arith, left_side, right, is)
  where
    spread : (n p : ℕ) → n * (2 * p) ≡ 2 * (n * p)
    spread n p = omega arith

-- the parts of a size
module _ (size left unit : ℕ) (is : unit ≡ 2 ^ left) where
  some : 0 < unit
  some = let h = pow_pos left in omega (arith, h, is)

  pub together : size / unit * 2 ^ left + size % unit ≡ size
  together = let p = some in ap (λ (k : ℕ). size / unit * k + size % unit) (sym is) ∙ omega arith

  pub rest_below : size % unit < 2 ^ left
  rest_below = let p = some in let h = mod-lt size p in omega (arith, h, is)

  -- an odd size has an odd rest, unless all of it is in front of the point
  pub odd_rest : (left ≤ 0) ⊎ (size % 2 ≡ 0 → ⊥) → size % unit % 2 ≡ 0 → left ≡ 0
  odd_rest (inl none) even = omega (arith, none)
  odd_rest (inr odd) even = ⊎_elim (λ none. none) (λ other. absurd (odd (parity (omega (arith, other))))) (cases_eq left 0)
    where
      doubled : (q p : ℕ) → q * (2 * p) ≡ 2 * (q * p)
      doubled q p = omega arith

      parity : 0 < left → size % 2 ≡ 0
      parity above =
          let q = size / unit in
          let twice : q * 2 ^ left ≡ 2 * (q * 2 ^ (left - 1)) = ap (λ (k : ℕ). q * k) (one_more left above) ∙ doubled q (2 ^ (left - 1)) in
          omega (arith, twice, together, even)

-- nine digits of a fraction
module _ (rest places unit : ℕ) (is : unit ≡ 2 ^ (places - 9)) (behind : rest < 2 ^ places) (more : 9 ≤ places) where
  room : 2 ^ places ≡ 512 * unit
  room = let e : places ≡ 9 + (places - 9) = omega arith in ap (λ (k : ℕ). 2 ^ k) e ∙ pow-add 2 9 (places - 9) ∙ ap (λ (k : ℕ). 512 * k) (sym is)

  pub nine_digits : rest * 1953125 / unit < 10 ^ 9
  nine_digits = let h = pow_pos (places - 9) in let r = room in (div-lt_iff_lt-mul (omega (arith, h, is))).1 (omega (arith, r))

pub fits_times : (rest places : ℕ) → rest < 2 ^ places → places ≤ 106 → rest * 1953125 < 2 ^ 128
fits_times rest places behind few = let h : 2 ^ places ≤ 2 ^ 106 = pow_mono few in omega (arith, h)

-- the digits that are left, fewer than nine
pub last_digits : (rest places p : ℕ) → p ≡ 5 ^ places → rest < 2 ^ places → places < 9 → rest * p < 2 ^ 128
last_digits rest places p is behind few =
    let a : 2 ^ places ≤ 2 ^ 9 = pow_mono (let h : places ≤ 9 = omega arith in h) in
    let b : 5 ^ places ≤ 5 ^ 9 = pow-le-pow_right (lit< tt) {j = 9} (omega arith) in
    let x : rest ≤ 512 = omega (arith, a) in
    let y : p ≤ 5 ^ 9 = omega (arith, b, is) in
    let c : rest * p ≤ 512 * 5 ^ 9 = mul-le-mul x y in
    omega (arith, c)

pub few_fives : (places : ℕ) → places < 9 → 5 ^ places < 2 ^ 128
few_fives places few = let b : 5 ^ places ≤ 5 ^ 9 = pow-le-pow_right (lit< tt) {j = 9} (omega arith) in omega (arith, b)
