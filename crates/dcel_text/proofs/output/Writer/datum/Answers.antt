use Rattle.std.proofs.Common.{◌≡◌, [], ◌∷◌, ℕ, ℤ, pos, negsuc, true, false, refl, sym, subst, rules}
use Rattle.std.proofs.Math.Facts.{to_z-of_z}
use Rattle.std.proofs.Math.IntN.{nat_abs}
use Rattle.std.proofs.lemmas.Bool.{false≢true}
use Rattle.std.specs.Fmt.{decimal, signed_decimal}
use Rattle.std.specs.Int.Signed.{lt_z}
use Rattle.dcel_text.proofs.Writing.{writes_and, writes_text}
use Rattle.dcel_text.proofs.output.Writer.datum.Goals as goal
use Rattle.dcel_text.proofs.output.Writer.datum.Goals.{then-d-lt0, else-d-lt0}

-- below 0 a datum is a minus sign and its size, and else its size alone
signed : (d : ℤ) → lt_z d (pos 0) ≡ true → 45 ∷ decimal (nat_abs d) ≡ signed_decimal d
signed (pos n) below = absurd (search rules)
signed (negsuc n) below = refl

unsigned : (d : ℤ) → lt_z d (pos 0) ≡ false → decimal (nat_abs d) ≡ signed_decimal d
unsigned (pos n) below = refl
unsigned (negsuc n) below = absurd (false≢true (sym below))

with_sign : (d z : ℤ) (n : ℕ) → z ≡ d → n ≡ nat_abs z → lt_z z (pos 0) ≡ true → 45 ∷ decimal n ≡ signed_decimal d
with_sign d z n same size below = rw size (rw same (signed d (subst (λ (x : ℤ). lt_z x (pos 0) ≡ true) same below)))

without_sign : (d z : ℤ) (n : ℕ) → z ≡ d → n ≡ nat_abs z → lt_z z (pos 0) ≡ false → decimal n ≡ signed_decimal d
without_sign d z n same size below = rw size (rw same (unsigned d (subst (λ (x : ℤ). lt_z x (pos 0) ≡ false) same below)))

pub returns : goal.returns
returns g c = elim c.if-d-lt0.branch [
  | then-d-lt0 w ↦ writes_text (with_sign c.args.d _ c.unsigned_abs.result (to_z-of_z c.ranges.d) c.unsigned_abs.ensures.value w.if-d-lt0.true)
      (writes_and {xs = 45 ∷ []} {ys = decimal c.unsigned_abs.result} w.write.ensures (rw (sym w.self-is) c.number.ensures))
  | else-d-lt0 w ↦ writes_text {xs = decimal c.unsigned_abs.result} (without_sign c.args.d _ c.unsigned_abs.result (to_z-of_z c.ranges.d) c.unsigned_abs.ensures.value w.if-d-lt0.false)
      (rw (sym w.self-is) c.number.ensures)
]
