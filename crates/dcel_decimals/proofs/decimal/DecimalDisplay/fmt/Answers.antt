use Rattle.std.proofs.Common.{ℕ, ◌^◌, ◌<◌, ◌≤◌, arith, lit<}
use Rattle.std.proofs.Math.Nat.{pow-le-pow_right}
use Rattle.dcel_decimals.proofs.decimal.DecimalDisplay.fmt.Goals as goal
use Rattle.dcel_decimals.proofs.Powers.{some}

pub nonzero_div-size : goal.nonzero_div-size
nonzero_div-size g c = let h = some c.args.self.now.places in omega (arith, c.pow-unit.ensures)

pub nonzero_rem-behind : goal.nonzero_rem-behind
nonzero_rem-behind g c = let h = some c.args.self.now.places in omega (arith, c.pow-unit.ensures)

pub pow-unit-requires : goal.pow-unit-requires
pow-unit-requires g c = few c.args.self.now.places (omega arith)
  where
    few : (p : ℕ) → p ≤ 25 → 10 ^ p < 2 ^ 128
    few p h = let k : 10 ^ p ≤ 10 ^ 25 = pow-le-pow_right (lit< tt) {j = 25} h in omega (arith, k)
