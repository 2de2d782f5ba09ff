use Rattle.std.proofs.Common.{arith}
use Rattle.std.proofs.lemmas.Nat.Gcd.{IsGcd-from_mod, IsGcd-from_zero}
use Rattle.delaunay.proofs.fraction.greatest_common_divisor.Goals as goal

pub loop-lesser-preserved : goal.loop-lesser-preserved
loop-lesser-preserved c = λ g h. c.loop-lesser.invariant g (IsGcd-from_mod c.loop-lesser.greater c.loop-lesser.lesser g h)

pub returns : goal.returns
returns c = c.loop-lesser.invariant c.loop-lesser.greater (IsGcd-from_zero c.loop-lesser.greater c.loop-lesser.lesser (omega arith))
