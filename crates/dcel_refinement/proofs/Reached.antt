-- Products in two parts, and larger tangents.
use Rattle.std.proofs.Common.{◌≡◌, ℕ, ◌+◌, ◌-◌, ◌*◌, ◌^◌, ◌≤◌, inl, inr, ⊎_elim, arith, sym, ap, ◌∙◌}
use Rattle.std.proofs.Math.Nat.{le_trans, mul-add, mul-le-mul_right, mul-one, mul_assoc, pow-succ', pow-zero}
use Rattle.std.proofs.lemmas.Bool.{cases_lt}
use Rattle.std.proofs.lemmas.Nat.{pow-add}
use Rattle.dcel_refinement.specs.Tangents.{Reaches, arc_of, denominator, numerator, radius}

-- a product by the parts of a factor
pub split_product : (f u l b n : ℕ) → u * b + l ≡ n → f * u * b + f * l ≡ f * n
split_product f u l b n e = ap (λ (k : ℕ). k + f * l) (mul_assoc f u b) ∙ sym (mul-add f (u * b) l) ∙ ap (λ (k : ℕ). f * k) e

-- powers by squares
squared : (a : ℕ) → a ^ 2 ≡ a * a
squared a = pow-succ' a 1 ∙ ap (λ (k : ℕ). a * k) (pow-succ' a 0 ∙ ap (λ (k : ℕ). a * k) (pow-zero a) ∙ mul-one a)

fourth : (a : ℕ) → a ^ 4 ≡ a * a * (a * a)
fourth a = pow-add a 2 2 ∙ ap (λ (k : ℕ). k * k) (squared a)

pub numerator_is : (arc : ℕ) → (840 * (radius * radius) - 95 * (arc * arc)) * (radius * radius) + arc * arc * (arc * arc) ≡ numerator arc
numerator_is arc = omega (arith, squared arc, fourth arc)

pub denominator_is : (arc : ℕ) → (840 * (radius * radius) - 375 * (arc * arc)) * (radius * radius) + 14 * (arc * arc * (arc * arc)) ≡ denominator arc
denominator_is arc = omega (arith, squared arc, fourth arc)

-- a larger numerator reaches what a smaller one does
reaches_more : (steps run r s : ℕ) → r ≤ s → Reaches steps r run → Reaches steps s run
reaches_more steps run r s h (inl all) = inl (le_trans all h)
reaches_more steps run r s h (inr some) = inr (le_trans some (mul-le-mul_right (denominator (arc_of steps)) (mul-le-mul_right radius h)))

-- so those that do are above one that doesn't
pub reaches_above : (steps run r s : ℕ) → ¬ Reaches steps r run → Reaches steps s run → r + 1 ≤ s
reaches_above steps run r s none some = ⊎_elim (λ less. omega arith) (λ past. absurd (none (reaches_more steps run s r past some))) (cases_lt r s)
