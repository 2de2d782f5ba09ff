use Rattle.std.proofs.Common.{◌≤◌, ◌%◌, ◌*◌, ◌^◌, arith, lit<}
use Rattle.std.proofs.Math.Nat.{mod-le, one-le-pow, pow-le-pow_right}
use Rattle.delaunay.proofs.unit.Unit.divisor.Goals as goal

pub returns-in-Scale-clause-some : goal.returns-in-Scale-clause-some
returns-in-Scale-clause-some c =
    let is = c.factor.ensures.value in
    let some = one-le-pow c.in-Scale.scale.power 10 (lit< tt) in
    omega (arith, is, some)

pub returns-in_ok-checked_sub-in-Grid-clause-bound : goal.returns-in_ok-checked_sub-in-Grid-clause-bound
returns-in_ok-checked_sub-in-Grid-clause-bound c =
    let n = c.in_ok-checked_sub-in-Grid.field-0 in
    let known = c.in_ok-checked_sub-in-Grid.ensures in
    let is = known.1 in
    let most = c.in-Grid.grid.in_range in
    let small : n ≤ 96 = omega (arith, is, most) in
    let power : 2 ^ n ≤ 2 ^ 96 = pow-le-pow_right (lit< tt) small in
    let rest = mod-le (1 * 2 ^ n) (2 ^ 128) in
    omega (arith, power, rest)
