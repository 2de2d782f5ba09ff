use Rattle.std.proofs.Common.{arith}
use Rattle.std.proofs.lemmas.Nat.Gcd.{le_of_dvd}
use Rattle.delaunay.proofs.fraction.Reduced.of.Goals as goal

pub divided-requires-2-clause-bound : goal.divided-requires-2-clause-bound
divided-requires-2-clause-bound c =
    let least = le_of_dvd c.requires.some c.greatest_common_divisor-common.ensures.0 in
    let most = c.requires.bound in
    omega (arith, least, most)
