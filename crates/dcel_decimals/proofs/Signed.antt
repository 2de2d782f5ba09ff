-- Numbers with a sign, and their sizes.
use Rattle.std.proofs.Common.{◌≡◌, ℕ, zero, suc, ◌*◌, Bool, true, false, ℤ, pos, negsuc, ◌*ℤ◌, ◌<ℤ◌, ◌≤ℤ◌, unsigned_abs, refl, ap, sym, ◌∙◌, arith}
use Rattle.std.proofs.Math.IntN.{pos-*ℤ-pos, negsuc-*ℤ-pos}
use Rattle.std.proofs.Math.Nat.{mul_assoc}
use Rattle.std.proofs.lemmas.Int.{ints, unsigned_abs-mul}
use Rattle.fast_float.specs.Text.{with_sign}

pub signed-times : (b : Bool) (n k : ℕ) → with_sign b n *ℤ pos k ≡ with_sign b (n * k)
signed-times true zero k = pos-*ℤ-pos 0 k ∙ omega (arith, ints)
signed-times true (suc n) k = negsuc-*ℤ-pos n k
signed-times false n k = pos-*ℤ-pos n k

pub size-signed : (b : Bool) (n : ℕ) → unsigned_abs (with_sign b n) ≡ n
size-signed true zero = refl
size-signed true (suc n) = refl
size-signed false n = refl

-- a number of another size and with the sign of z
pub like-negative : (z : ℤ) (s k l : ℕ) → z <ℤ pos 0 → s * k ≡ unsigned_abs z * l → with_sign true s *ℤ pos k ≡ z *ℤ pos l
like-negative (pos n) s k l h e = absurd (omega (arith, ints))
like-negative (negsuc n) s k l h e = signed-times true s k ∙ ap (with_sign true) e ∙ sym (signed-times true (suc n) l)

pub like-positive : (z : ℤ) (s k l : ℕ) → pos 0 ≤ℤ z → s * k ≡ unsigned_abs z * l → with_sign false s *ℤ pos k ≡ z *ℤ pos l
like-positive (pos n) s k l h e = signed-times false s k ∙ ap (with_sign false) e ∙ sym (signed-times false n l)
like-positive (negsuc n) s k l h e = absurd (omega (arith, ints))

-- the sizes of equal products
pub sizes : (n m : ℤ) (k l : ℕ) → n *ℤ pos k ≡ m *ℤ pos l → unsigned_abs n * k ≡ unsigned_abs m * l
sizes n m k l e = sym (unsigned_abs-mul n (pos k)) ∙ ap unsigned_abs e ∙ unsigned_abs-mul m (pos l)

pub size-is : (n : ℤ) (k : ℕ) (b : Bool) (m : ℕ) → n *ℤ pos k ≡ with_sign b m → unsigned_abs n * k ≡ m
size-is n k b m e = sym (unsigned_abs-mul n (pos k)) ∙ ap unsigned_abs e ∙ size-signed b m

pub times_again : (z : ℤ) (k l m : ℕ) → k * l ≡ m → (z *ℤ pos k) *ℤ pos l ≡ z *ℤ pos m
times_again (pos n) k l m e =
    ap (λ (x : ℤ). x *ℤ pos l) (signed-times false n k) ∙ signed-times false (n * k) l ∙ ap (with_sign false) (mul_assoc n k l ∙ ap (λ (x : ℕ). n * x) e) ∙ sym (signed-times false n m)
times_again (negsuc n) k l m e =
    ap (λ (x : ℤ). x *ℤ pos l) (signed-times true (suc n) k) ∙ signed-times true (suc n * k) l ∙ ap (with_sign true) (mul_assoc (suc n) k l ∙ ap (λ (x : ℕ). suc n * x) e) ∙ sym (signed-times true (suc n) m)
