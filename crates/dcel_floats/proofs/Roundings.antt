-- Rounded sizes, with their signs.
use Rattle.std.proofs.Common.{◌≡◌, ℕ, ◌+◌, ◌-◌, ◌*◌, ◌%◌, ◌^◌, ◌<◌, ◌≤◌, ℤ, pos, negsuc, neg_ℤ, ◌+ℤ◌, ◌-ℤ◌, ◌*ℤ◌, unsigned_abs, w64, to_z, of_z, int_lt, Bool, true, false, ⊎_elim, arith, refl, sym, ap, subst, ◌∙◌}
use Rattle.std.proofs.Math.IntN.{negsuc-*ℤ-pos, pos-*ℤ-pos, *ℤ_comm}
use Rattle.std.proofs.Math.Nat.{eq_of_mul-eq-mul_right, mul-le-mul_right, mul_assoc, mul-sub, mul_comm, add-mul, zero-mul}
use Rattle.std.proofs.lemmas.Int.{ints, unsigned_abs-mul}
use Rattle.std.proofs.lemmas.Bool.{cases_eq}
use Rattle.std.proofs.lemmas.Bool.Decides.{nat_tests}
use borrow.Author.Differences.{up, down, sum_is_lem, neg_is}
use Rattle.dcel_floats.specs.Floats.{signed}
use Rattle.dcel_floats.specs.Rounding.{IsNearest, IsRounded, distance_of, error_of}

-- products with differences
mul_add : (a b c : ℤ) → a *ℤ (b +ℤ c) ≡ (a *ℤ b) +ℤ (a *ℤ c)
mul_add a b c =
    let e = sum_is_lem b c in
    let ups = ap (λ x. up a * x) e in
    let downs = ap (λ x. down a * x) e in
    omega (arith, ints)

mul_neg : (a b : ℤ) → a *ℤ neg_ℤ b ≡ neg_ℤ (a *ℤ b)
mul_neg a b =
    let e = neg_is b in
    let up_up = ap (λ x. up a * x) e.0 in
    let up_down = ap (λ x. up a * x) e.1 in
    let down_up = ap (λ x. down a * x) e.0 in
    let down_down = ap (λ x. down a * x) e.1 in
    omega (arith, ints)

sub_mul : (a b c : ℤ) → (a -ℤ b) *ℤ c ≡ (a *ℤ c) -ℤ (b *ℤ c)
sub_mul a b c =
    *ℤ_comm (a -ℤ b) c
    ∙ mul_add c a (neg_ℤ b)
    ∙ ap (λ z. (c *ℤ a) +ℤ z) (mul_neg c b)
    ∙ ap (λ z. z -ℤ (c *ℤ b)) (*ℤ_comm c a)
    ∙ ap (λ z. (a *ℤ c) -ℤ z) (*ℤ_comm c b)

neg_mul : (a b : ℤ) → neg_ℤ a *ℤ b ≡ neg_ℤ (a *ℤ b)
neg_mul a b = *ℤ_comm (neg_ℤ a) b ∙ mul_neg b a ∙ ap neg_ℤ (*ℤ_comm b a)

-- no farther than half a step, so no other multiple is nearer
module _ (step : ℕ) (number n : ℤ) (half : 2 * error_of step number n ≤ step) where
  farther : (x y : ℤ) → step ≤ unsigned_abs (y -ℤ x) → 2 * unsigned_abs (x -ℤ number) ≤ step → unsigned_abs (x -ℤ number) ≤ unsigned_abs (y -ℤ number)
  farther x y far near = omega (arith, ints)

  same : (x y : ℤ) → unsigned_abs (y -ℤ x) ≡ 0 → unsigned_abs (x -ℤ number) ≤ unsigned_abs (y -ℤ number)
  same x y none = omega (arith, ints)

  pub is_nearest : (other : ℤ) → error_of step number n ≤ error_of step number other
  is_nearest other =
      let e : unsigned_abs ((other *ℤ pos step) -ℤ (n *ℤ pos step)) ≡ unsigned_abs (other -ℤ n) * step =
      ap unsigned_abs (sym (sub_mul other n (pos step))) ∙ unsigned_abs-mul (other -ℤ n) (pos step) in
      ⊎_elim
      (λ zero. same (n *ℤ pos step) (other *ℤ pos step) (e ∙ ap (λ (k : ℕ). k * step) zero ∙ zero-mul step))
      (λ some. farther (n *ℤ pos step) (other *ℤ pos step)
      (let one : 1 ≤ unsigned_abs (other -ℤ n) = omega (arith, some) in let more : 1 * step ≤ unsigned_abs (other -ℤ n) * step = mul-le-mul_right step one in omega (arith, e)) half)
      (cases_eq (unsigned_abs (other -ℤ n)) 0)

-- the error of a size with its sign is the distance
pub error_signed : (s : Bool) (step size n : ℕ) → error_of step (signed s size) (signed s n) ≡ distance_of (n * step) size
error_signed false step size n = let e = pos-*ℤ-pos n step in omega (arith, ints)
error_signed true step size n = let e : neg_ℤ (pos n) *ℤ pos step ≡ neg_ℤ (pos (n * step)) = neg_mul (pos n) (pos step) ∙ ap neg_ℤ (pos-*ℤ-pos n step) in omega (arith, ints)

pub size_signed : (s : Bool) (n : ℕ) → unsigned_abs (signed s n) ≡ n
size_signed false n = refl
size_signed true n = omega (arith, ints)

pub signed-mul : (s : Bool) (n f : ℕ) → signed s (n * f) ≡ signed s n *ℤ pos f
signed-mul false n f = sym (pos-*ℤ-pos n f)
signed-mul true n f = sym (neg_mul (pos n) (pos f) ∙ ap neg_ℤ (pos-*ℤ-pos n f))

pub nearest_signed : (s : Bool) (step size n : ℕ) → IsRounded step size n → IsNearest step (signed s size) (signed s n)
nearest_signed s step size n rounded =
    let e = error_signed s step size n in
    let half : 2 * error_of step (signed s size) (signed s n) ≤ step = let h = rounded.half in omega (arith, e) in record {
      nearest = is_nearest step (signed s size) (signed s n) half;
      half = half;
      even = λ tie. ap (λ (k : ℕ). k % 2) (size_signed s n) ∙ rounded.even (ap (λ (k : ℕ). 2 * k) (sym e) ∙ tie);
    }

-- both times a factor
sub_times : (a b f : ℕ) → (a - b) * f ≡ a * f - b * f
sub_times a b f = mul_comm (a - b) f ∙ mul-sub f a b ∙ ap (λ (k : ℕ). k - f * b) (mul_comm f a) ∙ ap (λ (k : ℕ). a * f - k) (mul_comm f b)

distance-mul : (a b f : ℕ) → distance_of (a * f) (b * f) ≡ distance_of a b * f
distance-mul a b f =
    sym (add-mul (a - b) (b - a) f ∙ ap (λ (k : ℕ). k + (b - a) * f) (sub_times a b f) ∙ ap (λ (k : ℕ). (a * f - b * f) + k) (sub_times b a f))

module _ (unit size n f : ℕ) (some : 0 < f) where
  times : n * (unit * f) ≡ (n * unit) * f
  times = sym (mul_assoc n unit f)

  distance_times : 2 * distance_of (n * (unit * f)) (size * f) ≡ 2 * distance_of (n * unit) size * f
  distance_times =
      ap (λ (k : ℕ). 2 * distance_of k (size * f)) times ∙ ap (λ (k : ℕ). 2 * k) (distance-mul (n * unit) size f) ∙ sym (mul_assoc 2 (distance_of (n * unit) size) f)

  pub rounded_times : IsRounded unit size n → IsRounded (unit * f) (size * f) n
  rounded_times rounded = record {
    half = subst (λ (k : ℕ). k ≤ unit * f) (sym distance_times) (mul-le-mul_right f rounded.half);
    even = λ tie. rounded.even (eq_of_mul-eq-mul_right f some (2 * distance_of (n * unit) size) unit (sym distance_times ∙ tie));
  }

-- an exact multiple
pub exact : (step size n : ℕ) → 0 < step → n * step ≡ size → IsRounded step size n
exact step size n some is =
    let none : distance_of (n * step) size ≡ 0 = omega arith in record {
      half = omega (arith, none);
      even = λ tie. absurd (omega (arith, none, tie));
    }

-- a size that is less than half a step
pub rounds_off : (step size : ℕ) → 2 * size < step → IsRounded step size 0
rounds_off step size small = record {
  half = omega arith;
  even = λ tie. refl;
}

-- what an i64 holds
pub negative_held : (n : ℕ) → n ≤ 2 ^ 53 → to_z w64 (of_z w64 (pos 0 -ℤ to_z w64 n)) ≡ neg_ℤ (pos n)
negative_held n h = omega (arith, ints)

pub positive_held : (n : ℕ) → n ≤ 2 ^ 53 → to_z w64 n ≡ pos n
positive_held n h = omega (arith, ints)

-- a number of steps, by its sign and size
pub signed_steps : (held : ℤ) (size f : ℕ) → size ≡ unsigned_abs held → signed (int_lt held (pos 0)) (size * f) ≡ held *ℤ pos f
signed_steps (pos n) size f is = ap (λ (k : ℕ). signed (int_lt (pos n) (pos 0)) (k * f)) is ∙ ap (λ (b : Bool). signed b (n * f)) (none n) ∙ sym (pos-*ℤ-pos n f)
  where
    none : (k : ℕ) → int_lt (pos k) (pos 0) ≡ false
    none k = grind (arith, nat_tests)
signed_steps (negsuc n) size f is = ap (λ (k : ℕ). neg_ℤ (pos (k * f))) is ∙ sym (negsuc-*ℤ-pos n f)

pub steps_are : (held steps : ℤ) (size f : ℕ) → held ≡ steps → size ≡ unsigned_abs held → signed (int_lt held (pos 0)) (size * f) ≡ steps *ℤ pos f
steps_are held steps size f same is = signed_steps held size f is ∙ ap (λ (z : ℤ). z *ℤ pos f) same
