use Rattle.std.proofs.Common.{arith}
use Rattle.dcel_decimals.proofs.digits.raised.Goals as goal
use Rattle.dcel_decimals.proofs.Powers.{beyond}

pub returns-then-power-gt24 : goal.returns-then-power-gt24
returns-then-power-gt24 c below = let h = beyond c.args.number c.args.power (omega arith) (omega arith) in omega arith
