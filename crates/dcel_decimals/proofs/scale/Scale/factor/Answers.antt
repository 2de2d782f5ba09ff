use Rattle.std.proofs.Common.{◌≤◌, ◌^◌, arith, lit<}
use Rattle.std.proofs.Math.Nat.{pow-le-pow_right}
use Rattle.dcel_decimals.proofs.scale.Scale.factor.Goals as goal

pub returns-clause-bound : goal.returns-clause-bound
returns-clause-bound c = let h : 10 ^ c.args.self.power ≤ 10 ^ 18 = pow-le-pow_right (lit< tt) {j = 18} c.args.self.in_range in omega (arith, h)
