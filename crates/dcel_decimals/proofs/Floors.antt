-- Fractions rounded down, and then to the nearest.
use Rattle.std.proofs.Common.{◌≡◌, ℕ, suc, ◌+◌, ◌-◌, ◌*◌, ◌/◌, ◌%◌, ◌^◌, ◌<◌, ◌≤◌, ◌⊎◌, ◌↔◌, inl, inr, ⊎_elim, Bool, true, false, IsTrue, min, refl, sym, ap, ◌∙◌, arith, lit<}
use Rattle.std.proofs.Math.Nat.{add-mul, eq_of_mul-eq-mul_right, mul-le-mul, mul-le-mul_left, mul-le-mul_right, mul_assoc, mul_comm, pow-succ', le_of_lt, pow-le-pow_right}
use Rattle.std.proofs.lemmas.Bool.{cases_eq, cases_lt}
use lib.Pow.{pow_mono, pow_pos}
use Rattle.dcel_floats.specs.Rounding.{IsRounded}
use Rattle.dcel_decimals.specs.Floors.{GoesUp, IsFloor, IsShift}
use Rattle.dcel_decimals.proofs.Powers.{twice}

-- a count of 1024th parts of a step
module _ (n d count whole part : ℕ) (is_exact : Bool) (split : count ≡ whole * 1024 + part) (few : part < 1024) (floor : IsFloor n d count is_exact) where
  some : 0 < d
  some = ⊎_elim (λ none. absurd (let e : (count + 1) * d ≡ (count + 1) * 0 = ap (λ (k : ℕ). (count + 1) * k) none in omega (arith, e, floor.most))) (λ other. let h = other in omega (arith, h)) (cases_eq d 0)

  parts : count * d ≡ 1024 * (whole * d) + part * d
  parts = ap (λ (k : ℕ). k * d) split ∙ add-mul (whole * 1024) part d ∙ ap (λ (k : ℕ). k + part * d) (ap (λ (k : ℕ). k * d) (mul_comm whole 1024) ∙ mul_assoc 1024 whole d)

  next : (count + 1) * d ≡ 1024 * (whole * d) + part * d + d
  next = let e = parts in omega (arith, e)

  at : whole * (2 ^ 10 * d) ≡ 1024 * (whole * d)
  at = omega arith

  at_next : (whole + 1) * (2 ^ 10 * d) ≡ 1024 * (whole * d) + 1024 * d
  at_next = omega arith

  more : (k : ℕ) → k ≤ part → k * d ≤ part * d
  more k h = mul-le-mul_right d h

  less : (k : ℕ) → part ≤ k → part * d ≤ k * d
  less k h = mul-le-mul_right d h

  exactly : is_exact ≡ true → count * d ≡ n
  exactly e = floor.exact.0 e

  inexactly : is_exact ≡ false → count * d ≡ n → ⊥
  inexactly e is = let t = floor.exact.1 is in absurd (let h : true ≡ false = sym t ∙ e in grind arith)

  -- rounded up, with the parts that are missing
  module _ (missing : ℕ) (rest : missing + part ≡ 1024) (up : GoesUp whole part is_exact) where
    half_up : 512 ≤ part
    half_up = ⊎_elim (λ h. omega (arith, h)) (λ h. omega (arith, h.0)) up

    gap : missing * d + part * d ≡ 1024 * d
    gap = sym (add-mul missing part d) ∙ ap (λ (k : ℕ). k * d) rest

    even_up : n ≡ 1024 * (whole * d) + 512 * d → (whole + 1) % 2 ≡ 0
    even_up tie =
        ⊎_elim
        (λ past. absurd (let h : 513 * d ≤ part * d = more 513 past in omega (arith, h, tie, floor.least, parts, some)))
        (λ half. ⊎_elim
        (λ loose. absurd (inexactly loose (let e : part * d ≡ 512 * d = ap (λ (k : ℕ). k * d) half.0 in omega (arith, e, tie, parts))))
        (λ odd. omega (arith, odd))
        half.1)
        up

    pub rounded_up : IsRounded (2 ^ 10 * d) n (whole + 1)
    rounded_up =
        let h : 512 * d ≤ part * d = more 512 half_up in
        let l : part * d ≤ 1023 * d = less 1023 (omega arith) in record {
          half = omega (arith, h, l, at_next, parts, next, floor.least, floor.most);
          even = λ tie. even_up (omega (arith, h, l, tie, at_next, parts, next, floor.least, floor.most));
        }

    pub shifted_up : IsShift (2 ^ 10 * d) d n (whole + 1) missing
    shifted_up =
        let l : part * d ≤ 1023 * d = less 1023 (omega arith) in record {
          enough = omega (arith, l, gap, at_next, parts, next, floor.least, floor.most);
          least = omega (arith, l, gap, at_next, parts, next, floor.least, floor.most);
        }

  -- and down
  module _ (down : GoesUp whole part is_exact → ⊥) where
    half_down : part ≤ 512
    half_down = ⊎_elim (λ past. absurd (down (inl past))) (λ within. within) (cases_lt 512 part)

    even_down : part ≡ 512 → whole % 2 ≡ 0
    even_down half = ⊎_elim (λ none. none) (λ odd. absurd (down (inr (half, inr (omega (arith, odd)))))) (cases_eq (whole % 2) 0)

    strictly : is_exact ≡ false → part ≤ 511
    strictly loose = ⊎_elim (λ half. absurd (down (inr (half, inl loose)))) (λ other. omega (arith, half_down, other)) (cases_eq part 512)

    by_tie : part * d ≡ 512 * d → whole % 2 ≡ 0
    by_tie tie = even_down (eq_of_mul-eq-mul_right d some part 512 tie)

    rounded_exactly : is_exact ≡ true → IsRounded (2 ^ 10 * d) n whole
    rounded_exactly exact =
        let e = exactly exact in
        let l : part * d ≤ 512 * d = less 512 half_down in record {
          half = omega (arith, e, l, at, parts);
          even = λ tie. by_tie (omega (arith, e, l, tie, at, parts));
        }

    rounded_loosely : is_exact ≡ false → IsRounded (2 ^ 10 * d) n whole
    rounded_loosely loose =
        let l : part * d ≤ 511 * d = less 511 (strictly loose) in record {
          half = omega (arith, l, at, parts, next, floor.least, floor.most);
          even = λ tie. absurd (omega (arith, l, tie, at, parts, next, floor.least, floor.most));
        }

    pub rounded_down : IsRounded (2 ^ 10 * d) n whole
    rounded_down = either is_exact refl
      where
        either : (b : Bool) → is_exact ≡ b → IsRounded (2 ^ 10 * d) n whole
        either true e = rounded_exactly e
        either false e = rounded_loosely e

    pub shifted_exactly : is_exact ≡ true → IsShift (2 ^ 10 * d) d n whole part
    shifted_exactly exact = let e = exactly exact in record {
      enough = omega (arith, e, at, parts);
      least = omega (arith, e, at, parts, some);
    }

    pub shifted_loosely : is_exact ≡ false → IsShift (2 ^ 10 * d) d n whole (part + 1)
    shifted_loosely loose =
        let apart : count * d ≡ n → ⊥ = inexactly loose in
        let m : (part + 1) * d ≡ part * d + d = omega arith in record {
          enough = omega (arith, m, at, parts, next, floor.least, floor.most);
          least = omega (arith, m, apart, at, parts, next, floor.least, floor.most);
        }

    pub shifts_in_half : is_exact ≡ false → part + 1 ≤ 512
    shifts_in_half loose = let h = strictly loose in omega (arith, h)

-- twice as much, and one doubling less
pub halved : (n k : ℕ) → 0 < k → n * 2 * 2 ^ (k - 1) ≡ n * 2 ^ k
halved n k h = let e : k ≡ suc (k - 1) = omega arith in mul_assoc n 2 (2 ^ (k - 1)) ∙ ap (λ (j : ℕ). n * j) (sym (pow-succ' 2 (k - 1))) ∙ ap (λ (j : ℕ). n * 2 ^ j) (sym e)

-- a quotient above or below a limit
module _ (w d r k n limit : ℕ) (is : (w * d + r) * 2 ^ k ≡ n) (some : 0 < d) where
  grown : w * d + r ≤ n
  grown = let one : 1 ≤ 2 ^ k = pow_pos k in let h = mul-le-mul_left (w * d + r) one in omega (arith, h, is)

  pub above : limit < w → limit * d < n
  above h = let more : suc limit * d ≤ w * d = mul-le-mul_right d h in let g = grown in omega (arith, more, g, some)

  pub above_by_rest : w ≡ limit → 0 < r → limit * d < n
  above_by_rest e h = let same : w * d ≡ limit * d = ap (λ (j : ℕ). j * d) e in let g = grown in omega (arith, same, g, h)

pub below : (w d r n limit : ℕ) → w * d + r ≡ n → r < d → w ≤ limit → ((w ≡ limit) × (r ≤ 0)) ⊎ (w ≡ limit → ⊥) → n ≤ limit * d
below w d r n limit is small within (inr apart) = let less : suc w ≤ limit = omega (arith, apart) in let more : suc w * d ≤ limit * d = mul-le-mul_right d less in omega (arith, more, is)
below w d r n limit is small within (inl none) = let more : w * d ≤ limit * d = mul-le-mul_right d within in omega (arith, more, is, none)

-- a second division
module _ (w d r s n : ℕ) (is : w * d + r ≡ n) (small : r < d) (some : 0 < s) where
  halves : w ≡ w / s * s + w % s
  halves = omega arith

  within : w / s * s ≤ w
  within = omega (arith, halves)

  past : w + 1 ≤ w / s * s + s
  past = omega (arith, halves)

  regrouped : w / s * (s * d) ≡ w / s * s * d
  regrouped = sym (mul_assoc (w / s) s d)

  spread_next : (w / s + 1) * (s * d) ≡ (w / s * s + s) * d
  spread_next = sym (mul_assoc (w / s + 1) s d) ∙ ap (λ (k : ℕ). k * d) spread
    where
      spread : (w / s + 1) * s ≡ w / s * s + s
      spread = omega arith

  floor_least : w / s * (s * d) ≤ n
  floor_least = let h = mul-le-mul_right d within in let e = regrouped in omega (arith, h, e, is)

  floor_most : n < (w / s + 1) * (s * d)
  floor_most = let h = mul-le-mul_right d past in let e = spread_next in omega (arith, h, e, is, small)

  exact_to : (r ≡ 0) × (w % s ≡ 0) → w / s * (s * d) ≡ n
  exact_to (none, multiple) =
      let e : w / s * s ≡ w = omega (arith, halves, multiple) in
      let f : w / s * s * d ≡ w * d = ap (λ (k : ℕ). k * d) e in
      let g = regrouped in
      omega (arith, f, g, is, none)

  exact_from : w / s * (s * d) ≡ n → (r ≡ 0) × (w % s ≡ 0)
  exact_from e =
      let h : w / s * s * d ≤ w * d = mul-le-mul_right d within in
      let g = regrouped in
      let none : r ≡ 0 = omega (arith, e, h, g, is) in
      let f : w / s * s * d ≡ w * d = omega (arith, e, h, g, is) in
      let same : w / s * s ≡ w = eq_of_mul-eq-mul_right d (omega (arith, small)) (w / s * s) w f in (none, omega (arith, halves, same))

  pub floor_again : (is_exact : Bool) → IsTrue is_exact ↔ ((r ≡ 0) × (w % s ≡ 0)) → IsFloor n (s * d) (w / s) is_exact
  floor_again is_exact told = record { least = floor_least; most = floor_most; exact = (λ exact. exact_to (told.0 exact), λ e. told.1 (exact_from e)) }

  pub count_within : (limit : ℕ) → w ≤ limit * s → w / s ≤ limit
  count_within limit h = ⊎_elim (λ past. absurd (let more : suc limit * s ≤ w / s * s = mul-le-mul_right s past in omega (arith, more, within, h, some))) (λ fits. fits) (cases_lt limit (w / s))

-- powers put together
pub tens : (p first : ℕ) → first ≤ p → 10 ^ (p - first) * 10 ^ first ≡ 10 ^ p
tens p first h = let e = twice 1 (p - first) first p (omega arith) in omega arith

-- what is left of 25 digits with more than 56 places
module _ (size p h : ℕ) (few : size < 10 ^ 25) (doublings : h ≤ 106) (far : 56 < p) where
  small : size * 2 ^ h < 10 ^ p
  small =
      let a : 2 ^ h ≤ 2 ^ 106 = pow_mono doublings in
      let b : 10 ^ 57 ≤ 10 ^ p = pow-le-pow_right (lit< tt) {i = 57} far in
      let c : size * 2 ^ h ≤ 10 ^ 25 * 2 ^ 106 = mul-le-mul (le_of_lt few) a in
      omega (arith, b, c)

  pub far_fits : size * 2 ^ h ≤ 2 ^ 63 * 10 ^ p
  far_fits = let s = small in omega (arith, s)

  pub far_floor : (is_exact : Bool) → IsTrue is_exact ↔ (size ≡ 0) → IsFloor (size * 2 ^ h) (10 ^ p) 0 is_exact
  far_floor is_exact told = record {
    least = omega arith;
    most = let s = small in omega (arith, s);
    exact = (λ exact. let none : size * 2 ^ h ≡ 0 * 2 ^ h = ap (λ (k : ℕ). k * 2 ^ h) (told.0 exact) in omega (arith, none), λ e. told.1 (⊎_elim (λ none. none) (λ other. absurd (let one : 1 ≤ size = omega (arith, other) in let more : 1 * 2 ^ h ≤ size * 2 ^ h = mul-le-mul_right (2 ^ h) one in let positive : 0 < 2 ^ h = pow_pos h in omega (arith, more, e, positive))) (cases_eq size 0)));
  }

-- the two divisors together
pub divisors : (p first m s d : ℕ) → first ≡ min p m → d ≡ 10 ^ first → s ≡ 10 ^ (p - first) → s * d ≡ 10 ^ p
divisors p first m s d e ed es = ap (λ (k : ℕ). k * d) es ∙ ap (λ (k : ℕ). 10 ^ (p - first) * k) ed ∙ tens p first (omega (arith, e))

-- a number of units that is within the range
pub whole_within : (w d r n limit : ℕ) → w * d + r ≡ n → r < d → n ≤ limit * d → w ≤ limit
whole_within w d r n limit is small within = ⊎_elim (λ past. absurd (let more : suc limit * d ≤ w * d = mul-le-mul_right d past in omega (arith, more, is, within, small))) (λ fits. fits) (cases_lt limit w)
